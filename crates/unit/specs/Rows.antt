-- Short runs of the definitions from reset, each with what it must show: a move right and left, tick by tick, one by TCR2, each number of
-- the gate, each priority, and whom the slots go to. The figures of the two moves come from a model written apart from the definitions.
use Rattle.std.specs.Prelude.{ℕ, ◌-◌, true, false, List, [], ◌∷◌, ◌≡◌, get_or, replicate}
use Rattle.motor.specs.declared.Way.TheVariants.{Right}
use Rattle.motor.specs.declared.Phase.{Phase}
use Rattle.motor.specs.declared.Phase.TheVariants.{Resting, Armed, Matched}
use Rattle.unit.specs.declared.State.{State}
use Rattle.unit.specs.TheUnit.{reset_state, cisr, with_reg, with_timers, with_pins, reg, with_request, channel, with_level, with_phase, with_late, word, with_word, position, target}
use Rattle.unit.specs.OneTick.{matched, tick, after_ticks}
use Rattle.unit.specs.Quiet.{quiet_below}
use Rattle.unit.specs.Gate.{advance_good, requested, gate}
use Rattle.unit.specs.Calls.{pin_words, Call, Write, Advance, read_of, write_of, run}
use Rattle.unit.specs.Answers.{reading_number, verdict_number}
use Rattle.unit.specs.Readings.{late_word}

-- A state without arguments is computed once, however many rows use it: runs that have a beginning in common share it.

-- channels 4 and 5 initialised with these CHANNEL_CONTROL and the patterns $8421 and $1234, in two ticks
unfoldable pub initialised : ℕ → ℕ → State
initialised first second =
    run reset_state
    (Write 0xe10 0x00dd ∷ Write 0xe1e 0x0500 ∷ Write 0xf42 0x8421 ∷ Write 0xf40 first ∷ Write 0xf52 0x1234 ∷ Write 0xf50 second
    ∷ Write 0xe1a 0x0a00 ∷ Advance 2 (0 ∷ 0 ∷ []) ∷ Write 0xe20 0 ∷ [])

unfoldable pub by_tcr1 : State
by_tcr1 = initialised 0x0081 0x0082

unfoldable pub by_tcr2 : State
by_tcr2 = initialised 0x00e1 0x00e2

-- then N = 3, STEP_CNTL0 1 and this STEP_CNTL1, and the motor at rest: P(1) is STEP_CNTL1 - 2
unfoldable pub ready : State → ℕ → ℕ → ℕ → State
ready s ramp here there =
    run s (Write 0xf44 here ∷ Write 0xf46 there ∷ Write 0xf48 0x0001 ∷ Write 0xf4a 0x0305 ∷ Write 0xf54 1 ∷ Write 0xf56 ramp ∷ [])

-- P(3) is 128, as short as the gate takes
unfoldable pub at_rest : State
at_rest = ready by_tcr1 132 0 3

-- set going with P(1) = 6, P(3) = 4: shorter than the gate takes, so by what a taken request does
unfoldable pub goes : ℕ → ℕ → State
goes here there = requested (ready by_tcr1 8 here there) 4 3

unfoldable pub goes_right : State
goes_right = goes 0 4

-- by TCR2, with P = 2 counts at every rate
unfoldable pub winds : State
winds = requested (run (ready by_tcr2 8 0 4) (Write 0xf54 0 ∷ Write 0xf56 2 ∷ [])) 4 3

-- a run from its tick m on: its states after each of these ticks
unfoldable pub film : ℕ → List ℕ → State → List State
film m [] s = []
film m (n ∷ ns) s = let t = after_ticks (n - m) s in t ∷ film n ns t

unfoldable pub pictures : (State → List ℕ) → List State → List (List ℕ)
pictures f [] = []
pictures f (s ∷ l) = f s ∷ pictures f l

unfoldable pub rightward : List State
rightward = film 0 (1 ∷ 6 ∷ 7 ∷ 12 ∷ 22 ∷ 23 ∷ 24 ∷ []) goes_right

unfoldable pub slowly : List State
slowly = film 0 (1 ∷ 13 ∷ 14 ∷ 61 ∷ 62 ∷ []) winds

-- after 12 ticks, the pins of all other channels high and patterns in channels 3 and 6
unfoldable pub among_others : State
among_others = after_ticks 12 (with_pins (with_word (with_word goes_right 6 0 0x1234) 3 0 0x1234) 0xffdf)

-- the pin word, position, word 4, the two CHANNEL_CONTROL words and CISR
unfoldable pub shows : State → List ℕ
shows s = s.pins ∷ position s 4 ∷ word s 4 4 ∷ word s 4 0 ∷ word s 5 0 ∷ reg s cisr ∷ []

-- after these writes to a motor at rest, the number of a write, 0 for taken
unfoldable pub refuses : List Call → ℕ → ℕ → ℕ
refuses xs a v = verdict_number (gate (run at_rest xs) a v)

-- the number of a step request of channels so initialised
unfoldable pub kinds : State → ℕ
kinds s = verdict_number (gate (ready s 132 0 3) 0xe1a 0x0300)

-- how far the first tick moves the motor with this word in CPR1, in which bits 9 and 8 are its priority
unfoldable pub first_step : ℕ → ℕ
first_step cpr = position (tick (run at_rest (Write 0xe1e cpr ∷ Write 0xe1a 0x0300 ∷ []))) 4

-- what is pending in HSRR1 when a word has just asked channels 4 and 5 to be initialised, with this word in CPR1, and one and two ticks later
unfoldable pub waiting : ℕ → List (List ℕ)
waiting cpr =
    pictures (λ s. reg s 8 ∷ [])
    (film 0 (0 ∷ 1 ∷ 2 ∷ []) (run reset_state (Write 0xe10 0x00dd ∷ Write 0xe1e cpr ∷ Write 0xf40 0x0082 ∷ Write 0xf50 0x0082 ∷ Write 0xe1a 0x0a00 ∷ [])))

-- The number of channel 4, at low, after a tick that brings TCR1 to this count and begins with the group of 4 to 5 in this phase. Its number
-- was 7.
unfoldable pub tells : Phase → ℕ → ℕ
tells p count =
    late_word 4 (tick (with_timers (with_late (with_phase (with_word (with_reg reset_state 10 0x0100) 4 5 0x0105) 4 Right p) 4 7) record { tcr1 = count - 1; tcr2 = 0 }))

-- groups 4 to 5 and 6 to 7 at low, both at their targets, with matches set for the next tick that take pins 4 and 6 high
unfoldable pub pair : State
pair =
    with_phase (with_phase (with_level (with_level (with_word (with_word (with_reg reset_state 10 0x1100) 4 5 0x0105) 6 5 0x0107) 4 true) 6 true) 4 Right (Armed 1)) 6 Right (Armed 1)

pub record Rows : Type 0 where
  -- 0 to 4: steps in ticks 1, 7, 12 and 18, pins one period later, arrival in tick 24
  pub row-right : pictures shows rightward
      ≡ (0x10 ∷ 1 ∷ 258 ∷ 0xc210 ∷ 0x91a ∷ 0x0 ∷ [])
      ∷ (0x10 ∷ 1 ∷ 258 ∷ 0xc210 ∷ 0x91a ∷ 0x0 ∷ [])
      ∷ (0x10 ∷ 2 ∷ 513 ∷ 0x6108 ∷ 0x48d ∷ 0x0 ∷ [])
      ∷ (0x0 ∷ 3 ∷ 769 ∷ 0x3084 ∷ 0x8246 ∷ 0x0 ∷ [])
      ∷ (0x20 ∷ 4 ∷ 1025 ∷ 0x1842 ∷ 0x4123 ∷ 0x0 ∷ [])
      ∷ (0x20 ∷ 4 ∷ 1025 ∷ 0x1842 ∷ 0x4123 ∷ 0x0 ∷ [])
      ∷ (0x0 ∷ 4 ∷ 1025 ∷ 0x1842 ∷ 0x4123 ∷ 0x10 ∷ [])
      ∷ []
  -- 7 to 3, the mirror image
  pub row-left : pictures shows (film 0 (1 ∷ 6 ∷ 7 ∷ 12 ∷ 23 ∷ 24 ∷ []) (goes 7 3))
      ≡ (0x10 ∷ 6 ∷ 3842 ∷ 0x843 ∷ 0x2468 ∷ 0x0 ∷ [])
      ∷ (0x10 ∷ 6 ∷ 3842 ∷ 0x843 ∷ 0x2468 ∷ 0x0 ∷ [])
      ∷ (0x0 ∷ 5 ∷ 3585 ∷ 0x1086 ∷ 0x48d0 ∷ 0x0 ∷ [])
      ∷ (0x0 ∷ 4 ∷ 3329 ∷ 0x210c ∷ 0x91a0 ∷ 0x0 ∷ [])
      ∷ (0x20 ∷ 3 ∷ 3073 ∷ 0x4218 ∷ 0x2341 ∷ 0x0 ∷ [])
      ∷ (0x0 ∷ 3 ∷ 3073 ∷ 0x4218 ∷ 0x2341 ∷ 0x10 ∷ [])
      ∷ []
  -- 0 to 4 by TCR2, set going in tick 2 since reset: served in tick 3 at count 0; TCR2 comes to 2 in tick 16, and in tick 64 to 8
  pub row-slow : pictures shows slowly
      ≡ (0x10 ∷ 1 ∷ 258 ∷ 0xc210 ∷ 0x91a ∷ 0x0 ∷ [])
      ∷ (0x10 ∷ 1 ∷ 258 ∷ 0xc210 ∷ 0x91a ∷ 0x0 ∷ [])
      ∷ (0x10 ∷ 2 ∷ 513 ∷ 0x6108 ∷ 0x48d ∷ 0x0 ∷ [])
      ∷ (0x20 ∷ 4 ∷ 1025 ∷ 0x1842 ∷ 0x4123 ∷ 0x0 ∷ [])
      ∷ (0x0 ∷ 4 ∷ 1025 ∷ 0x1842 ∷ 0x4123 ∷ 0x10 ∷ [])
      ∷ []
  -- how far an advance may go at once: to the match, which is 6 counts of TCR1 or 2 of TCR2 after the first step
  pub row-quiet : (quiet_below 16 (tick goes_right) ≡ 5) × (quiet_below 16 (tick winds) ≡ 12)
  -- both channels by one timer, and one by each
  pub row-kinds : (kinds by_tcr1 ≡ 0) × (kinds by_tcr2 ≡ 0) × (kinds (initialised 0x0081 0x00e2) ≡ 6) × (kinds (initialised 0x00e1 0x0082) ≡ 6)
  -- the pin word of each tick is its own: of ticks 23 and 24
  pub row-pins : pin_words 2 (get_or rightward 4 reset_state) ≡ 0x20 ∷ 0x0 ∷ []
  -- a step and its match leave the pins and patterns of the channels beside the group
  pub row-beside : (among_others.pins ≡ 0xffcf) × (word among_others 6 0 ≡ 0x1234) × (word among_others 3 0 ≡ 0x1234)
  -- a step request that no write has stored, of a group at rest: the test follows (N14)
  pub row-stored : shows (tick (with_request (ready by_tcr1 8 0 4) 4 3)) ≡ 0x10 ∷ 1 ∷ 258 ∷ 0xc210 ∷ 0x91a ∷ 0x0 ∷ []
  -- a match beyond the wrap of TCR1 is not due before it
  pub row-wrap : ((channel (matched 4 (with_timers (with_phase reset_state 4 Right (Armed 3)) record { tcr1 = 0xfffe; tcr2 = 0 })) 4).phase ≡ Armed 3)
      × ((channel (matched 4 (with_timers (with_phase reset_state 4 Right (Armed 3)) record { tcr1 = 3; tcr2 = 0 })) 4).phase ≡ Matched 3 3)
  -- a target put behind a fast motor: it slows down first
  pub row-behind : position (after_ticks 4 (write_of (after_ticks 12 (goes 0 9)) 0xf46 1).state) 4 ≡ 4
  -- question 1: an odd address, and one that is not in the list
  pub row-question-1 : (refuses [] 0xe0b 0 ≡ 1) × (refuses [] 0xe08 0 ≡ 1) × (refuses [] 0xe22 0 ≡ 1) × (refuses [] 0xffe 0 ≡ 0)
  -- question 2: a word of a group under way, but its target, and a channel with a pending request
  pub row-question-2 : (refuses (Write 0xe1a 0x0300 ∷ []) 0xf4a 0 ≡ 2) × (refuses (Write 0xe1a 0x0300 ∷ []) 0xf50 0 ≡ 2)
      × (refuses (Write 0xe1a 0x0300 ∷ []) 0xf46 1 ≡ 0) × (refuses (Write 0xf40 0x0081 ∷ Write 0xe1a 0x0200 ∷ []) 0xf46 1 ≡ 2)
  -- question 3: another function
  pub row-question-3 : refuses (Write 0xe10 0x00dc ∷ []) 0xe1a 0x0300 ≡ 3
  -- question 4: CHANNEL_CONTROL for an initialise
  pub row-question-4 : (refuses (Write 0xf40 0x0082 ∷ []) 0xe1a 0x0200 ≡ 4) × (refuses (Write 0xf40 0x00a1 ∷ []) 0xe1a 0x0200 ≡ 4)
      × (refuses (Write 0xf40 0x00c1 ∷ []) 0xe1a 0x0200 ≡ 4) × (refuses (Write 0xf40 0x00e1 ∷ []) 0xe1a 0x0200 ≡ 0)
      × (refuses (Write 0xf40 0xfe9d ∷ []) 0xe1a 0x0200 ≡ 0)
  -- question 5: the span, and N from 1 to 14
  pub row-question-5 : (refuses (Write 0xf4a 0x0304 ∷ []) 0xe1a 0x0300 ≡ 5) × (refuses (Write 0xf4a 0x030c ∷ []) 0xe1a 0x0300 ≡ 5)
      × (refuses (Write 0xf4a 0x0005 ∷ []) 0xe1a 0x0300 ≡ 5) × (refuses (Write 0xf4a 0x0f05 ∷ []) 0xe1a 0x0300 ≡ 5)
      × (refuses (Write 0xf4a 0x1305 ∷ []) 0xe1a 0x0300 ≡ 5)
  -- question 6: a channel of the group that is not of function 13, or not initialised
  pub row-question-6 : (refuses (Write 0xf4a 0x030b ∷ []) 0xe1a 0x0300 ≡ 6) × (refuses (Write 0xf50 0x1234 ∷ []) 0xe1a 0x0300 ≡ 6)
  -- question 7: the next rate, word 4 otherwise, MOD_CNT and the pattern
  pub row-question-7 : (refuses (Write 0xf48 0x0002 ∷ []) 0xe1a 0x0300 ≡ 7) × (refuses (Write 0xf48 0x0011 ∷ []) 0xe1a 0x0300 ≡ 7)
      × (refuses (Write 0xf48 0x0101 ∷ []) 0xe1a 0x0300 ≡ 7) × (refuses (Write 0xf52 0x2234 ∷ []) 0xe1a 0x0300 ≡ 7)
  -- question 8: the shortest and the longest period
  pub row-question-8 : (refuses (Write 0xf56 5 ∷ []) 0xe1a 0x0300 ≡ 14) × (refuses (Write 0xf56 4 ∷ []) 0xe1a 0x0300 ≡ 8)
      × (refuses (Write 0xf54 0 ∷ Write 0xf56 0x7fff ∷ []) 0xe1a 0x0300 ≡ 0) × (refuses (Write 0xf54 0 ∷ Write 0xf56 0x8000 ∷ []) 0xe1a 0x0300 ≡ 8)
  -- 14: P(3) of 128 and of 127; it comes before question 9
  pub row-14 : (refuses (Write 0xf56 132 ∷ []) 0xe1a 0x0300 ≡ 0) × (refuses (Write 0xf56 131 ∷ []) 0xe1a 0x0300 ≡ 14)
      × (refuses (Write 0xf56 131 ∷ Write 0xf46 0xffff ∷ []) 0xe1a 0x0300 ≡ 14) × (refuses (Write 0xf56 132 ∷ Write 0xf46 0xffff ∷ []) 0xe1a 0x0300 ≡ 9)
  -- question 9: the target at most $FFFF - N, at the request and while bound
  pub row-question-9 : (refuses (Write 0xf46 0xfffc ∷ []) 0xe1a 0x0300 ≡ 0) × (refuses (Write 0xf46 0xfffd ∷ []) 0xe1a 0x0300 ≡ 9)
      × (refuses (Write 0xe1a 0x0300 ∷ []) 0xf46 0xfffd ≡ 9) × (refuses [] 0xf46 0xfffd ≡ 0)
  -- question 10: so many ticks, and room for them
  pub row-question-10 : (advance_good 4097 (replicate 4097 0) ≡ false) × (advance_good 2 (0 ∷ []) ≡ false) × (advance_good 2 (0 ∷ 0 ∷ []) ≡ true) × (advance_good 0 [] ≡ true)
  -- a CFSR word concerns the channels whose field differs: beside a group under way, and in it
  pub row-functions : (refuses (Write 0xe1a 0x0300 ∷ []) 0xe10 0x0ddd ≡ 0) × (refuses (Write 0xe1a 0x0300 ∷ []) 0xe10 0x00dc ≡ 2)
  -- a request waits while the priority is 00; 01, 10 and 11 have it served
  pub row-priorities : (first_step 0x0400 ≡ 0) × (first_step 0x0500 ≡ 1) × (first_step 0x0600 ≡ 1) × (first_step 0x0700 ≡ 1)
  -- one service a tick (paper 02, #107): the lower number first, but the higher level before it in the high slot of tick 1
  pub row-one-a-tick : (waiting 0x0500 ≡ (0x0a00 ∷ []) ∷ (0x0800 ∷ []) ∷ (0 ∷ []) ∷ [])
      × (waiting 0x0d00 ≡ (0x0a00 ∷ []) ∷ (0x0200 ∷ []) ∷ (0 ∷ []) ∷ [])
  -- two matches of one tick both show on the pins at once; their services, here arrivals, come one after the other. The second is one count
  -- late, and its number comes with its service: pins, CISR and the numbers of channels 4 and 6
  pub row-pair : pictures (λ s. s.pins ∷ reg s cisr ∷ late_word 4 s ∷ late_word 6 s ∷ []) (film 0 (1 ∷ 2 ∷ []) pair)
      ≡ (0x50 ∷ 0x10 ∷ 0 ∷ 0 ∷ []) ∷ (0x50 ∷ 0x50 ∷ 0 ∷ 1 ∷ []) ∷ []
  -- how late a match service is (paper 02, #108): since the match time, not the captured one, $8000 and more too; a match that falls due in the
  -- tick; and without one the number stays
  pub row-late : (tells (Matched 5 2) 10 ≡ 8) × (tells (Matched 0x9000 2) 0x9001 ≡ 0x8fff) × (tells (Matched 0 3) 2 ≡ 0xffff) × (tells (Armed 10) 10 ≡ 0)
      × (tells (Armed 11) 10 ≡ 7) × (tells Resting 10 ≡ 7)
  -- the first service of a move, that of its request, leaves it; the next, in tick 7, is of a match; and no channel beside it has one
  pub row-late-move : pictures (λ s. late_word 4 s ∷ late_word 5 s ∷ []) (film 0 (6 ∷ 7 ∷ []) (with_late goes_right 4 7)) ≡ (7 ∷ 0 ∷ []) ∷ (0 ∷ 0 ∷ []) ∷ []
  -- in counts of TCR2, which rises in ticks 14, 22 and 30: priority 00 after tick 13, and 01 again after tick 33
  pub row-late-slow : late_word 4 (tick (with_reg (after_ticks 20 (with_reg (get_or slowly 1 reset_state) 10 0)) 10 0x0500)) ≡ 2
  -- read only, and none beside them
  pub row-late-read-only : (refuses [] 0xe40 0 ≡ 1) × (refuses [] 0xe5e 0 ≡ 1) × (reading_number (read_of reset_state 0xe40) ≡ 0)
      × (reading_number (read_of reset_state 0xe5e) ≡ 0) × (reading_number (read_of reset_state 0xe41) ≡ 1) × (reading_number (read_of reset_state 0xe3e) ≡ 1)
      × (reading_number (read_of reset_state 0xe60) ≡ 1)
  -- in an HSRR word the lowest refused channel gives the number, and the lower ones count as taken: from the top the first would be 4
  pub row_word : (refuses [] 0xe1a 0x0b00 ≡ 2) × (refuses (Write 0xf50 0x0082 ∷ Write 0xe1a 0x0800 ∷ []) 0xe1a 0x0300 ≡ 6) × (refuses [] 0xe1a 0x0000 ≡ 0)
  -- a target taken under way is the one in memory, and a refused write changes nothing
  pub row-writes : (target (write_of (goes 0 3) 0xf46 1).state 4 ≡ 1) × (word (write_of (goes 0 3) 0xf4a 0).state 4 5 ≡ 0x0305)
      × ((write_of (goes 0 3) 0xf4a 0).state.timers.tcr1 ≡ 2)
