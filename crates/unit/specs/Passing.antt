-- The timers, the slot and the registers in a tick, of every state and whatever else happens. Document 01, "One tick"; paper 02, #106 and
-- #107.
use Rattle.std.specs.Prelude.{ℕ, ◌+◌, ◌/◌, ◌%◌, ◌≢◌, ◌≡◌}
use Rattle.unit.specs.declared.State.{State}
use Rattle.unit.specs.TheUnit.{reg, channel}
use Rattle.unit.specs.OneTick.{tick, after_ticks}

pub record TimePasses : Type 0 where
  pub one : (s : State) → (tick s).timers.tcr1 ≡ (s.timers.tcr1 + 1) % 65536
  pub many : (s : State) (n : ℕ) → (after_ticks n s).timers.tcr1 % 65536 ≡ (s.timers.tcr1 + n) % 65536
  -- TCR2 rises in the tick that brings TCR1 to a multiple of eight, and in no other
  pub rises : (s : State) → (tick s).timers.tcr1 % 8 ≡ 0 → (tick s).timers.tcr2 ≡ (s.timers.tcr2 + 1) % 65536
  pub stands : (s : State) → (tick s).timers.tcr1 % 8 ≢ 0 → (tick s).timers.tcr2 ≡ s.timers.tcr2 % 65536
  pub eighths : (s : State) (n : ℕ) → (after_ticks n s).timers.tcr2 % 65536 ≡ (s.timers.tcr2 + (s.timers.tcr1 % 8 + n) / 8) % 65536
  -- the slot goes on in every tick, whatever is served and if nothing is
  pub slot : (s : State) → (tick s).slots.slot ≡ (s.slots.slot + 1) % 7
  pub slots : (s : State) (n : ℕ) → (after_ticks n s).slots.slot % 7 ≡ (s.slots.slot + n) % 7
  -- of the registers only HSRR, 7 and 8, and CISR, 11, change
  pub registers : (s : State) (i : ℕ) → i ≢ 7 → i ≢ 8 → i ≢ 11 → reg (tick s) i ≡ reg s i
  -- the timer that the record of a group names stays
  pub named : (s : State) (c : ℕ) → (channel (tick s) c).timer ≡ (channel s c).timer
