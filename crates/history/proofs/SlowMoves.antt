-- Request #103 of every list of calls: `slow-moves`, from that of one group.
use Prim.Native.Nat.{ℕ, ◌≤◌}
use mathlib.Core.Bool.{false}
use mathlib.Core.List.{List, []}
use mathlib.Core.Option.{none}
use mathlib.Core.Path.{◌≡◌, ap, sym, subst, ◌∙◌}
use Rattle.motor.specs.Group.{Group}
use Rattle.motor.specs.Track.{distance}
use Rattle.motor.specs.Count.{Sight, UpToArrival, UnderWay, Running, NoTarget, Moment, after, moves_in, latest}
use Rattle.motor.specs.GroupCount as group-count
use Rattle.motor.specs.SlowMoves.{AllSlow, LastSlow, Paced}
use Rattle.motor.proofs.SlowMoves as group-moves
use Rattle.unit.specs.declared.State.{State}
use Rattle.unit.specs.TheUnit.{position, target, top, motor_of, is_bound}
use Rattle.history.specs.Moments.{Act, through, Typed, see, moments}
use Rattle.history.specs.Term3.{Run, Cut}
use Rattle.history.specs.SlowMoves.{MoveOf, SlowMoves}
use Rattle.history.proofs.Look.{look}
use Rattle.history.proofs.Own.{view_in, view, group_in}
use Rattle.history.proofs.Begin.{Begun, set-going}
use Rattle.history.proofs.Chain.{ahead, seen, Chained, chain}
use Rattle.history.proofs.Term3.{begun, now-by, after-moments}

module _ (c : ℕ) (t : State) (now : List Act) (m : MoveOf Typed c t now) where
  abbrev move : Run
  move = record { calls = m.calls; c = c; a = m.a; v = m.v; before = m.before; gone = []; now = now; rest = m.rest }

  cut : Cut move
  unfolding moments UnderWay
  cut = record { listed = m.listed; whole = m.whole; starts = m.starts; under-way = tt }

  begins : Begun c t
  begins = subst (Begun c) (sym m.start) (begun move cut)

  runs : Running (moments c t now)
  unfolding through
  runs = subst (λ s. UpToArrival (moments c s now) → Running (moments c s now)) (sym m.start) (now-by move cut) m.running

  chained : Chained c t now
  chained = chain c now t (ahead c t begins.held) runs

  abbrev group : Group
  group = (view t c).group

  -- what holds of the moments of the group holds of those that are seen
  moved : (C : List Moment → Type 0) → (group-count.Fair group chained.acts → Running (group-count.moments group chained.acts) → NoTarget (group-count.moments group chained.acts) → C (group-count.moments group chained.acts)) → C (moments c t now)
  moved C k = subst C (sym chained.same) (k chained.fair (subst Running chained.same runs) (subst NoTarget chained.same m.free))

  short : distance (position t c) (target t c) ≤ top t c → AllSlow (moves_in (moments c t now))
  unfolding view view_in group_in look motor_of position target top
  short l = moved (λ ms. AllSlow (moves_in ms)) (λ f r n. (group-moves.slow-moves).short group chained.acts (set-going c t begins) f r n l)

  over : is_bound (through t now) c ≡ false → (after (see c t) (moments c t now)).bound ≡ false
  unfolding see
  over e = ap (λ (v : Sight). v.bound) (after-moments c t now) ∙ e

  ends : is_bound (through t now) c ≡ false → LastSlow (latest none (moves_in (moments c t now)))
  ends e =
      moved (λ ms. (after (see c t) ms).bound ≡ false → LastSlow (latest none (moves_in ms)))
      (λ f r n z. (group-moves.slow-moves).ends group chained.acts (set-going c t begins) f r n
      (subst (λ v. (after v (group-count.moments group chained.acts)).bound ≡ false) (seen c t (ahead c t begins.held)) z))
      (over e)

  paced : Paced (top t c) (moments c t now)
  unfolding view view_in group_in look motor_of top
  paced = moved (Paced (top t c)) (λ f r n. (group-moves.slow-moves).paced group chained.acts (set-going c t begins) f r n)

pub slow-moves : SlowMoves
slow-moves = record { short = short; ends = ends; paced = paced }
