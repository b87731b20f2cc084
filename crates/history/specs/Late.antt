-- Paper 02, #108, of every history: how late the service of a match was, as a read at $E40 and on gives it. The claim: `HowLate`.
use Rattle.std.specs.Prelude.{ℕ, ◌+◌, ◌-◌, ◌%◌, ◌≤◌, ◌<◌, true, List, ◌≢◌, ◌≡◌}
use Rattle.words.specs.declared.Timer.TheVariants.{Tcr1, Tcr2}
use Rattle.motor.specs.Group.{time_set}
use Rattle.motor.specs.Count.{Keeps}
use Rattle.unit.specs.declared.State.{State}
use Rattle.unit.specs.TheUnit.{reset_state, channel}
use Rattle.unit.specs.OneTick.{tick}
use Rattle.unit.specs.Pending.{is_matched}
use Rattle.unit.specs.Calls.{Call, write_of}
use Rattle.unit.specs.Readings.{late_word}
use Rattle.history.specs.Moments.{Typed}
use Rattle.history.specs.OneStep.{IsServed, clock_of, unserved}
use Rattle.history.specs.Always.{StateIn}
use Rattle.history.specs.Term3.{Run, CutOf, at_count, moments_gone}

-- the next tick serves a match of c: its slot goes to c, and the match has happened or falls due in it
unfoldable pub ServesMatch : ℕ → State → Type 0
ServesMatch c s = IsServed c s × (is_matched (unserved (channel s c).phase (clock_of c (tick s))) ≡ true)

-- what is claimed of every list of calls that is `Listed`
pub record HowLateOf (Listed : List Call → Type 0) : Type 0 where
  -- after reset each number is 0
  pub reset : (c : ℕ) → c < 16 → late_word c reset_state ≡ 0
  -- a tick that serves a match leaves the time by the group's timer less the time for which the match was set, modulo 65,536
  pub told : (calls : List Call) (s : State) → StateIn Listed calls s → (c : ℕ) → c < 16 → ServesMatch c s
      → late_word c (tick s) ≡ (clock_of c (tick s) + (65536 - time_set (channel s c).phase % 65536)) % 65536
  -- every other tick leaves the number, and so does every write, taken or refused
  pub kept : (calls : List Call) (s : State) → StateIn Listed calls s → (c : ℕ) → c < 16 → (ServesMatch c s → ⊥) → late_word c (tick s) ≡ late_word c s
  pub written : (s : State) (a v c : ℕ) → c < 16 → late_word c (write_of s a v).state ≡ late_word c s
  -- where the priority has stayed at one level, not 00, since the request that set the motor going: at most 111 counts of TCR1, and of TCR2,
  -- which rises in the tick of the match and then in every eighth, 13
  pub fast : (r : Run) → CutOf Listed r → (l : ℕ) → l ≢ 0 → Keeps l (moments_gone r) → ServesMatch r.c (at_count r)
      → (channel (at_count r) r.c).timer ≡ Tcr1 → late_word r.c (tick (at_count r)) ≤ 111
  pub slow : (r : Run) → CutOf Listed r → (l : ℕ) → l ≢ 0 → Keeps l (moments_gone r) → ServesMatch r.c (at_count r)
      → (channel (at_count r) r.c).timer ≡ Tcr2 → late_word r.c (tick (at_count r)) ≤ 13

-- of every list of calls whose written values are words
abbrev pub HowLate : Type 0
HowLate = HowLateOf Typed
