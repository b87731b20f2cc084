-- That a step request binds.
use Prim.Native.Nat.{ℕ, ◌<◌}
use mathlib.Core.Bool.{Bool, true, false}
use mathlib.Core.Path.{◌≡◌, refl, ap}
use Rattle.words.specs.Choice.{pick}
use Rattle.motor.specs.Group.{bound}
use Rattle.unit.specs.declared.State.{State}
use Rattle.unit.specs.declared.Channel.{Channel}
use Rattle.unit.specs.TheUnit.{with_reg, with_request, channel, with_binding, stepping}
use Rattle.unit.specs.Gate.{requested}
use Rattle.unit.proofs.Reset.{Sized}
use Rattle.unit.proofs.Access.{channel-same}

-- a step request leaves its channel under way, whether it was before or not
pub binds : (s : State) (c : ℕ) → c < 16 → Sized s → stepping (requested s c 3) c ≡ true
unfolding requested stepping with_request with_reg with_binding bound channel
binds s c h z = by (stepping s c) refl
  where
    by : (b : Bool) → stepping s c ≡ b → stepping (pick b s (with_binding s c)) c ≡ true
    by true t = t
    by false t = ap (λ (x : Channel). bound x.phase) (channel-same s c _ h z)

-- and the record of a group that it sets going names the timer of the primary's kind; one under way keeps its timer
pub names : (s : State) (c : ℕ) → c < 16 → Sized s → stepping s c ≡ false → (channel (requested s c 3) c).timer ≡ (channel s c).kind
unfolding requested with_request with_reg with_binding channel
names s c h z n = rw n (ap (λ (x : Channel). x.timer) (channel-same s c _ h z))

pub keeps-name : (s : State) (c : ℕ) → stepping s c ≡ true → (channel (requested s c 3) c).timer ≡ (channel s c).timer
unfolding requested with_request with_reg channel
keeps-name s c y = rw y refl
