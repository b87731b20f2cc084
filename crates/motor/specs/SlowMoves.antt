-- Paper 02, #103, of whole moves: up to N places away a motor never leaves rate 1, from further off it takes up speed, and its last step
-- is at rate 1 again. The claim for one group: `SlowMoves`.
use Rattle.std.specs.Prelude.{ℕ, suc, ◌-◌, ◌≤◌, ◌<◌, max, false, ◌≢◌, ◌≡◌, List, [], ◌∷◌}
use Rattle.std.proofs.Math.Option.{Option, none, some}
use Rattle.motor.specs.Track.{distance}
use Rattle.motor.specs.Group.{Group}
use Rattle.motor.specs.Count.{Tick, Moment, Move, moves_in, latest, after, Running, NoTarget}
use Rattle.motor.specs.GroupCount.{Act, see, moments, Fair, SetGoing}

-- every step is at rate 1
unfoldable pub AllSlow : List Move → Type 0
AllSlow [] = Unit {0}
AllSlow (x ∷ xs) = (x.rate ≡ 1) × AllSlow xs

-- the latest step, if there is one, is
unfoldable pub LastSlow : Option Move → Type 0
LastSlow none = Unit {0}
LastSlow (some x) = x.rate ≡ 1

-- the next rate k becomes j with a step that has d places ahead
pub record Pace (top d k j : ℕ) : Type 0 where
  -- more than N: one higher, or N
  pub rises : top < d → k < top → j ≡ suc k
  pub stays : top < d → k ≡ top → j ≡ top
  -- up to N: one lower, or 1
  pub falls : d ≤ top → j ≡ max 1 (k - 1)

-- each tick that changes the position keeps that pace, all the places to the target lying ahead
unfoldable pub Paced : ℕ → List Moment → Type 0
Paced top [] = Unit {0}
Paced top (m ∷ ms) =
    (m.event ≡ Tick → m.was.position ≢ m.is.position → Pace top (distance m.was.position m.was.target) m.was.rate m.is.rate) × Paced top ms

-- whatever happens from the request on, up to the arrival or the first target taken
pub record SlowMoves : Type 0 where
  pub short : (g : Group) (now : List Act) → SetGoing g → Fair g now → Running (moments g now) → NoTarget (moments g now)
      → distance g.motor.position g.motor.target ≤ g.motor.top → AllSlow (moves_in (moments g now))
  pub ends : (g : Group) (now : List Act) → SetGoing g → Fair g now → Running (moments g now) → NoTarget (moments g now)
      → (after (see g) (moments g now)).bound ≡ false → LastSlow (latest none (moves_in (moments g now)))
  pub paced : (g : Group) (now : List Act) → SetGoing g → Fair g now → Running (moments g now) → NoTarget (moments g now)
      → Paced g.motor.top (moments g now)
