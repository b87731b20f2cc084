-- Document 01, "Trials": those marked to be proved of the definitions, as one table, with the figures of paper 02, #103, beyond a
-- distance of N and at it. Moves start from reset, by real writes; their ticks are counted from the request, which tick 1 serves.
use Rattle.std.specs.Prelude.{ℕ, zero, suc, ◌+◌, ◌*◌, Bool, true, false, not, ◌&&◌, List, [], ◌∷◌, ◌≡◌, eqb}
use Rattle.words.specs.Clock.{due}
use Rattle.words.specs.Field.{bit_of}
use Rattle.words.specs.Rotation.{rotated_right}
use Rattle.motor.specs.Stepping.{period}
use Rattle.unit.specs.declared.State.{State}
use Rattle.unit.specs.TheUnit.{reset_state, position, next_rate, status, is_bound}
use Rattle.unit.specs.OneTick.{tick}
use Rattle.unit.specs.Gate.{gate}
use Rattle.unit.specs.Calls.{write_of, Call, Write, Advance, run}
use Rattle.unit.specs.Answers.{verdict_number}

-- a motor on channels 4 and 5 at rest at a position, ready to be asked: N, STEP_CNTL0, STEP_CNTL1, position and target
unfoldable pub ready : ℕ → ℕ → ℕ → ℕ → ℕ → List Call
ready n c0 c1 here there =
    Write 0xe10 0x00dd ∷ Write 0xe1e 0x0500
    ∷ Write 0xf42 0xcccc ∷ Write 0xf40 0x0081 ∷ Write 0xf52 0x3333 ∷ Write 0xf50 0x0082
    ∷ Write 0xe1a 0x0a00 ∷ Advance 2 (0 ∷ 0 ∷ [])
    ∷ Write 0xf44 here ∷ Write 0xf46 there ∷ Write 0xf48 0x0001 ∷ Write 0xf4a (n * 256 + 5)
    ∷ Write 0xf54 c0 ∷ Write 0xf56 c1 ∷ []

unfoldable pub rests : ℕ → ℕ → ℕ → ℕ → ℕ → State
rests n c0 c1 here there = run reset_state (ready n c0 c1 here there)

-- its step request, taken
unfoldable pub goes : ℕ → ℕ → State
goes here there = (write_of (rests 3 20 440 here there) 0xe1a 0x0300).state

-- the ticks of the steps, and last that of the arrival, which sets the status bit; k is the next tick
unfoldable pub step_ticks : ℕ → ℕ → State → List ℕ
step_ticks zero k s = []
step_ticks (suc n) k s =
    let t = tick s in
    elim (is_bound t 4) [
      | true ↦ elim (eqb (position s 4) (position t 4)) [ true ↦ step_ticks n (suc k) t | false ↦ k ∷ step_ticks n (suc k) t ]
      | false ↦ elim (status t 4) [ true ↦ k ∷ [] | false ↦ [] ]
    ]

-- n ticks, each looked at
unfoldable pub ticked : ℕ → State → State
ticked zero s = s
ticked (suc n) s = let t = tick s in elim (is_bound t 4) [ true ↦ ticked n t | false ↦ ticked n t ]

-- the positions that it goes to, and last the tick of the arrival
unfoldable pub positions : ℕ → ℕ → State → List ℕ
positions zero k s = []
positions (suc n) k s =
    let t = tick s in
    elim (is_bound t 4) [
      | true ↦ elim (eqb (position s 4) (position t 4)) [ true ↦ positions n (suc k) t | false ↦ position t 4 ∷ positions n (suc k) t ]
      | false ↦ k ∷ []
    ]

pub data Trial : Type 0 where
  -- STEP_CNTL0, STEP_CNTL1, r: P(r)
  Period : ℕ → ℕ → ℕ → ℕ → Trial
  -- N, STEP_CNTL0, STEP_CNTL1: the request is refused with this number, or 0 for taken
  Request : ℕ → ℕ → ℕ → ℕ → Trial
  -- from, to: the ticks of the steps and of the arrival
  Steps : ℕ → ℕ → List ℕ → Trial
  -- towards 10, target 1 after tick 781 at position 3 and next rate 3: the positions from there and the tick of the arrival
  Back : List ℕ → Trial
  -- a pattern by MOD_CNT: its level
  Level : ℕ → ℕ → Bool → Trial
  -- TCR1, match time: due
  Due : ℕ → ℕ → Bool → Trial

unfoldable pub same_list : List ℕ → List ℕ → Bool
same_list [] [] = true
same_list [] (y ∷ ys) = false
same_list (x ∷ xs) [] = false
same_list (x ∷ xs) (y ∷ ys) = eqb x y && same_list xs ys

unfoldable pub same : Bool → Bool → Bool
same true b = b
same false b = not b

unfoldable pub holds : Trial → Bool
holds (Period c0 c1 r p) = eqb (period c0 c1 r) p
holds (Request n c0 c1 k) = eqb (verdict_number (gate (rests n c0 c1 0 0) 0xe1a 0x0300)) k
holds (Steps here there l) = same_list (step_ticks 4000 1 (goes here there)) l
holds (Back l) =
    let s = ticked 781 (goes 0 10) in
    eqb (position s 4) 3 && (eqb (next_rate s 4) 3 && same_list (positions 4000 782 (write_of s 0xf46 1).state) l)
holds (Level w m b) = same (bit_of (rotated_right w m) 15) b
holds (Due now time b) = same (due now time) b

unfoldable pub table : List Trial
table =
    Period 20 440 1 400 ∷ Period 20 440 10 220 ∷ Period 77 3487 1 3333 ∷ Period 77 3487 14 2332
    ∷ Period 20 81 3 1 ∷ Request 3 20 208 0 ∷ Request 3 20 207 14 ∷ Request 3 20 81 14 ∷ Request 3 20 80 8 ∷ Request 3 0 32767 0 ∷ Request 3 0 32768 8
    ∷ Steps 0 10 (1 ∷ 401 ∷ 781 ∷ 1141 ∷ 1501 ∷ 1861 ∷ 2221 ∷ 2581 ∷ 2941 ∷ 3321 ∷ 3721 ∷ [])
    ∷ Steps 0 3 (1 ∷ 401 ∷ 801 ∷ 1201 ∷ []) ∷ Steps 0 2 (1 ∷ 401 ∷ 801 ∷ []) ∷ Steps 0 0 (1 ∷ [])
    ∷ Steps 3 0 (1 ∷ 401 ∷ 801 ∷ 1201 ∷ []) ∷ Steps 2 0 (1 ∷ 401 ∷ 801 ∷ [])
    ∷ Steps 0 4 (1 ∷ 401 ∷ 781 ∷ 1181 ∷ 1581 ∷ []) ∷ Steps 4 0 (1 ∷ 401 ∷ 781 ∷ 1181 ∷ 1581 ∷ [])
    ∷ Back (4 ∷ 5 ∷ 4 ∷ 3 ∷ 2 ∷ 1 ∷ 3461 ∷ [])
    ∷ Level 0xcccc 0 true ∷ Level 0xcccc 1 false ∷ Level 0xcccc 2 false ∷ Level 0xcccc 3 true ∷ Level 0xcccc 4 true
    ∷ Due 3 0xfffe true ∷ Due 3 0x8004 true ∷ Due 3 0x8003 false ∷ []

-- every row of a table holds
unfoldable pub AllHold : List Trial → Type 0
AllHold [] = Unit {0}
AllHold (t ∷ ts) = (holds t ≡ true) × AllHold ts

abbrev pub Trials : Type 0
Trials = AllHold table
