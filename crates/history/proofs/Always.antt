-- In every history each group under way is held and shown, and the pins show what they should.
use Prim.Native.Nat.{ℕ, ◌<◌}
use native.Mathlib.Omega.{arith}
use mathlib.Core.Bool.{Bool, true, false, ◌||◌}
use mathlib.Core.List.{List, [], ◌∷◌}
use mathlib.Core.Path.{◌≡◌, refl, ap, sym, subst, ◌∙◌}
use mathlib.Core.Logic.{◌≢◌, ◌⊎◌, inl, inr, ⊎_elim}
use lib.Dec.{eqb}
use borrow.Author.Tests.{le-leb, eq-eqb, ne_eqb, eqb-true, eqb-false}
use Rattle.words.specs.Choice.{pick}
use Rattle.words.specs.Field.{field, bit_of}
use Rattle.words.proofs.ChoiceLaws.{pick-cases, not-both, fails, and_left, and_right}
use Rattle.motor.specs.declared.Phase.TheVariants.{Matched}
use Rattle.motor.specs.Group.{time_set}
use Rattle.unit.specs.declared.State.{State}
use Rattle.unit.specs.declared.Channel.{Channel}
use Rattle.unit.specs.TheUnit.{reg, status, word, hsrr_of, pin, reaches, is_bound, last, reset_state, request, channel, channel_control, kind_in, pin_control, position, stepping}
use Rattle.history.specs.OneStep.{is_past, clock_of, IsServed, acts_at, pin_after_match, StepIs, StillIs}
use Rattle.unit.specs.OneTick.{tick}
use Rattle.unit.specs.Gate.{is_timed, may_initialise}
use Rattle.unit.specs.Calls.{Call}
use Rattle.history.specs.Moments.{Act, Ticks as ticks, Writes as writes, Nothing as nothing, does, through}
use Rattle.history.specs.Always.{GroupShown, OneKind, StateOf, ByInitialise, ByMatch, Pending, LeavesWords, InitialiseIs, Untouched, Always}
use Rattle.history.proofs.Alone.{Fades, fades-tick}
use Rattle.history.proofs.Held.{Held}
use Rattle.history.proofs.Ticks.{ours}
use Rattle.history.proofs.Parts.{Part, part}
use Rattle.history.proofs.WholeSteps.{on-enabled, tick_is}
use Rattle.history.proofs.Pins.{initialised_part, Initialises}
use Rattle.history.proofs.Begin.{unreached, unbound-still}
use Rattle.history.proofs.Asked.{asked}
use Rattle.history.proofs.Initialise.{request-done, request-waits, Settled, settled}
use Rattle.history.proofs.Lit.{Lit, ReachedBy, reached-by, tick-outcome, initialised-pin, lit-tick}
use Rattle.unit.proofs.Access.{reset-idle}
use Rattle.unit.proofs.Passing.{time-passes}
use Rattle.unit.proofs.Questions.{either}
use Rattle.history.proofs.Fine.{none-stepping, Fine, none-asked, fine-reset, fine-tick}
use Rattle.history.proofs.Chain.{tick-held}
use Rattle.history.proofs.Calls.{Words, words-acts, words-first}
use Rattle.history.proofs.Shown.{Every, shown-tick, kind-tick, kinds_kept}
use Rattle.history.proofs.Every.{Good, good-write}

-- ---- a tick, and many acts

every-tick : (s : State) → Fine s → Every s → Every (tick s)
unfolding Every
every-tick s f e p l g =
    let d : Fades s (tick s) = fades-tick s f.sized f.going in
    let h : Held p s × GroupShown p s × OneKind p s = e p l (d.still p g) in (
      tick-held p s h.0 g,
      shown-tick p s f h.0 h.1,
      kinds_kept p s (tick s) (d.spans p) (λ j a b. kind-tick p j s f h.0 a b) (time-passes.named s p) h.2,
    )

pub good-tick : (s : State) → Good s → Good (tick s)
good-tick s x = (fine-tick s x.0, every-tick s x.0 x.1, lit-tick s x.0 x.1 x.2)

good-through : (xs : List Act) (s : State) → Words xs → Good s → Good (through s xs)
unfolding through does Words
good-through [] s w x = x
good-through (ticks ∷ xs) s w x = good-through xs (tick s) w (good-tick s x)
good-through (writes a v ∷ xs) s w x = good-through xs _ w.1 (good-write a v s w.0 x)
good-through (nothing ∷ xs) s w x = good-through xs s w x

every-reset : Every reset_state
unfolding Every
every-reset p l g = absurd (not-both g (none-stepping p))

lit-reset : Lit reset_state
lit-reset =
    record {
      seen = λ p j l g. absurd (not-both g (none-stepping p));
      rests = λ j l u i. absurd (not-both i (ap (λ (y : Channel). y.initialised) (reset-idle j)));
      asked = λ j l q. absurd (let k : ◌≡◌ {A = ℕ} 0 2 = sym (none-asked j) ∙ q in omega arith);
    }

-- ---- any history

state-words : (calls : List Call) (s : State) → (x : StateOf calls s) → Words x.before
state-words calls s x = words-first x.before x.rest (subst Words x.cut (words-acts calls x.listed))

pub state-good : (calls : List Call) (s : State) → StateOf calls s → Good s
state-good calls s x = subst Good (sym x.reached) (good-through x.before reset_state (state-words calls s x) (fine-reset, every-reset, lit-reset))

moves-only : (calls : List Call) (s : State) → StateOf calls s → (p : ℕ) → p < 16 → position (tick s) p ≢ position s p → (b : Bool) → stepping s p ≡ b → (stepping s p ≡ true) × GroupShown p s
unfolding position Every
moves-only calls s x p l n true t = (t, ((state-good calls s x).1 p l t).1)
moves-only calls s x p l n false t = let f : Fine s = (state-good calls s x).0 in absurd (n ((fades-tick s f.sized f.going).places p 2 (omega arith) (omega arith) t))

-- ---- where a pin changes

by-initialise : (j : ℕ) (s : State) → j < 16 → Lit s → Initialises j s (tick s) → ByInitialise j s
unfolding part initialised_part pin_control
by-initialise j s l x q = record { pending = q.asked; level = ap (λ (y : Part). y.pin) q.part ∙ initialised-pin j s (x.asked j l q.asked).0 }

module _ (j : ℕ) (s : State) (r : ReachedBy j s) (n : pin (tick s) j ≢ pin s j) where
  reached : reaches s j r.primary ≡ true
  unfolding reaches
  reached = rw (r.up, le-leb r.primary j r.above, le-leb j (last s r.primary) r.below)

  acted : (b : Bool) → acts_at (channel s r.primary).phase (clock_of r.primary (tick s)) ≡ b → pin (tick s) j ≡ pick b (channel s j).level (pin s j) → ByMatch j s
  acted true t q = record { primary = r.primary; reached = reached; level = inl (t, q) }
  acted false t q = absurd (n q)

  still : StillIs r.primary s (tick s) → ByMatch j s
  unfolding pin_after_match
  still y = acted (acts_at (channel s r.primary).phase (clock_of r.primary (tick s))) refl (y.channels j r.above r.below).pin

  stepped : StepIs r.primary s (tick s) → ByMatch j s
  unfolding pin_after_match time_set
  stepped y = by (is_past (clock_of r.primary (tick s)) y.match.time) refl (y.channels j r.above r.below).pin
    where
      by : (b : Bool) → is_past (clock_of r.primary (tick s)) y.match.time ≡ b → pin (tick s) j ≡ pick b (channel (tick s) j).level (pin_after_match r.primary j s (tick s)) → ByMatch j s
      by true t q = record { primary = r.primary; reached = reached; level = inr (y.match.happens t ∙ ap (Matched (clock_of r.primary (tick s))) (sym (ap time_set (y.match.happens t))), q) }
      by false t q = acted (acts_at (channel s r.primary).phase (clock_of r.primary (tick s))) refl q

pins-only : (calls : List Call) (s : State) → StateOf calls s → (j : ℕ) → j < 16 → pin (tick s) j ≢ pin s j → (b : Bool) → is_bound s j ≡ b → ByInitialise j s ⊎ ByMatch j s
unfolding part Every
pins-only calls s x j l n true t =
    let e : Every s = (state-good calls s x).1 in
    let r : ReachedBy j s = reached-by j s l e t in
    inr (⊎_elim (stepped j s r n) (still j s r n) (tick_is r.primary s (e r.primary r.small r.up).0 (state-good calls s x).0))
pins-only calls s x j l n false t =
    let y : Good s = state-good calls s x in
    ⊎_elim (λ q. absurd (n (ap (λ (z : Part). z.pin) q))) (λ q. inl (by-initialise j s l y.2 q)) (tick-outcome s y.0 y.1 y.2 j l t)

-- ---- where a kind changes

settles : (calls : List Call) (s : State) → StateOf calls s → (j : ℕ) → j < 16 → is_bound s j ≡ false → Settled j s (tick s)
settles calls s x j l u = let f : Fine s = (state-good calls s x).0 in settled j s l f.sized f.going (unbound-still j s u) (unreached j s f.sized u)

kinds-only : (calls : List Call) (s : State) → StateOf calls s → (j : ℕ) → j < 16 → (channel (tick s) j).kind ≢ (channel s j).kind
    → (b : Bool) → is_bound s j ≡ b → Pending j s × IsServed j s
unfolding Every part Pending request hsrr_of IsServed ours
kinds-only calls s x j l n true t =
    let e : Every s = (state-good calls s x).1 in
    let r : ReachedBy j s = reached-by j s l e t in
    absurd (n (kind-tick r.primary j s (state-good calls s x).0 (e r.primary r.small r.up).0 r.above r.below))
kinds-only calls s x j l n false t = by (eqb (request s j) 2) refl (ours j s) refl
  where
    kept : (request s j ≡ 2 → ours j s ≡ false) → Pending j s × IsServed j s
    kept o = absurd (n (ap (λ (y : Part). y.kind) ((settles calls s x j l t).part-not o)))

    by : (p : Bool) → eqb (request s j) 2 ≡ p → (b : Bool) → ours j s ≡ b → Pending j s × IsServed j s
    by true p true e = (eqb-true _ 2 p, e)
    by true p false e = kept (λ q. e)
    by false p b e = kept (λ q. absurd (eqb-false _ 2 p q))

-- ---- initialise

-- of a channel that is not bound a tick leaves every word but CHANNEL_CONTROL, and sets nothing going
leaves-words : (calls : List Call) (s : State) → StateOf calls s → (j : ℕ) → is_bound s j ≡ false → LeavesWords j s (tick s)
leaves-words calls s x j u =
    let f : Fine s = (state-good calls s x).0 in
    let d : Fades s (tick s) = fades-tick s f.sized f.going in
    let r : stepping s j ≡ false = unbound-still j s u in
    record { words = λ i a b. d.places j i a b r; rests = fails (stepping (tick s) j) (λ e. not-both (d.still j e) r) }

initialise-is : (j : ℕ) (s t : State) → Settled j s t → LeavesWords j s t → may_initialise s j ≡ true → request s j ≡ 2 → ours j s ≡ true → request t j ≡ 0 → InitialiseIs j s t
unfolding part initialised_part kind_in channel_control pin_control may_initialise is_timed status request hsrr_of bit_of
initialise-is j s t x o m p e r =
    let q : part j j t ≡ initialised_part (part j j s) = x.part-both p e in
    let v : field 2 (word s j 0) 0 ≡ pick (eqb (field 1 (word s j 1) 15) 1) 1 2 = eqb-true _ _ (and_right (eqb (field 4 (word s j 0) 5) 4 || eqb (field 4 (word s j 0) 5) 7) _ m) in
    record {
      high = λ b. ap (λ (y : Part). y.pin) q ∙ eq-eqb (field 2 (word s j 0) 0) 1 b;
      low = λ b. ap (λ (y : Part). y.pin) q ∙ ne_eqb (field 2 (word s j 0) 0) 1 (λ d. omega arith);
      either = pick-cases (λ k. field 2 (word s j 0) 0 ≡ k → (field 2 (word s j 0) 0 ≡ 1) ⊎ (field 2 (word s j 0) 0 ≡ 2)) (eqb (field 1 (word s j 1) 15) 1) (λ a. inl) (λ a. inr) v;
      control = ap (λ (y : Part). y.control) q;
      others = o;
      set-up = ap (λ (y : Part). y.initialised) q;
      fast = λ b. ap (λ (y : Part). y.kind) q ∙ rw (ne_eqb (field 4 (word s j 0) 5) 7 (λ d. omega arith)) refl;
      slow = λ b. ap (λ (y : Part). y.kind) q ∙ rw (eq-eqb (field 4 (word s j 0) 5) 7 b) refl;
      timed = either (field 4 (word s j 0) 5) 4 7 (and_left (eqb (field 4 (word s j 0) 5) 4 || eqb (field 4 (word s j 0) 5) 7) _ m);
      status = eqb-true (field 1 (reg t 11) j) 1 (x.status-both p e);
      gone = r;
    }

untouched-is : (j : ℕ) (s t : State) → Settled j s t → LeavesWords j s t → (request s j ≡ 2 → ours j s ≡ false) → Untouched j s t
unfolding part channel_control pin_control status
untouched-is j s t x o n =
    let q : part j j t ≡ part j j s = x.part-not n in
    record { pin = ap (λ (y : Part). y.pin) q; control = ap (λ (y : Part). y.control) q; others = o; set-up = ap (λ (y : Part). y.initialised) q; status = x.status-not n }

pub always : Always
unfolding Every channel_control Pending request hsrr_of IsServed ours
always =
    record {
      shown = λ calls s x p l g. ((state-good calls s x).1 p l g).1;
      one-kind = λ calls s x p l g. ((state-good calls s x).1 p l g).2;
      rests = λ calls s x j l u i. (state-good calls s x).2.rests j l u i;
      pins = λ calls s x j l n. pins-only calls s x j l n (is_bound s j) refl;
      moves = λ calls s x p l n. moves-only calls s x p l n (stepping s p) refl;
      under-way = λ calls s x. (state-good calls s x).0.going;
      questions = λ calls s x c a v g. asked c a v s (state-good calls s x).0 g;
      enabled = λ calls s x j l o. on-enabled j s o;
      initialises = λ calls s x j l p e.
          let f : Good s = state-good calls s x in
          let y : (may_initialise s j ≡ true) × (is_bound s j ≡ false) = f.2.asked j l p in
          initialise-is j s (tick s) (settles calls s x j l y.1) (leaves-words calls s x j y.1) y.0 p e
          (request-done j s l f.0.sized f.0.going (omega (arith, p)) e);
      kinds = λ calls s x j l n. kinds-only calls s x j l n (is_bound s j) refl;
      untouched = λ calls s x j l u n. untouched-is j s (tick s) (settles calls s x j l u) (leaves-words calls s x j u) (λ p. fails (ours j s) (n p));
      done = λ calls s x j l. let f : Fine s = (state-good calls s x).0 in request-done j s l f.sized f.going;
      waits = λ calls s x j l n. let f : Fine s = (state-good calls s x).0 in request-waits j s l f.sized f.going (fails (ours j s) n);
    }
