use mathlib.Core.Path.{refl, subst}
use Rattle.unit.specs.Gate.{done}
use Rattle.deeds.specs.Good.{DeedGood}
use Rattle.deeds.proofs.done.Goals as goal

pub stored-requires : goal.stored-requires
unfolding DeedGood
stored-requires c =
    let h = subst DeedGood c.in-Parameter.is c.requires in
    h

pub put_reg-requires : goal.put_reg-requires
unfolding DeedGood
put_reg-requires c =
    let h = subst DeedGood c.in-Register.is c.requires in
    h

pub requested_word-requires : goal.requested_word-requires
unfolding DeedGood
requested_word-requires c =
    let h = subst DeedGood c.in-Request.is c.requires in
    record { most = h.0; eights = h.1 }

pub returns-in-Nothing : goal.returns-in-Nothing
unfolding done
returns-in-Nothing c = rw c.in-Nothing.is refl

pub returns-in-Parameter : goal.returns-in-Parameter
unfolding done
returns-in-Parameter c =
    let x = c.stored.ensures in
    rw c.in-Parameter.is x

pub returns-in-Register : goal.returns-in-Register
unfolding done
returns-in-Register c =
    let x = c.put_reg.ensures in
    rw c.in-Register.is x

pub returns-in-Keep : goal.returns-in-Keep
unfolding done
returns-in-Keep c =
    let x = c.put_reg-in-Keep.ensures in
    rw (c.in-Keep.is, ← c.reg.ensures) x

pub returns-in-Request : goal.returns-in-Request
unfolding done
returns-in-Request c =
    let x = c.requested_word.ensures in
    rw c.in-Request.is x
