-- What is delivered: every theorem beyond the contracts, in the order of the terms and requests. Nothing else stands here.
use Rattle.words.specs.Clock.{FallsDue}
use Rattle.motor.specs.Stepping.{Enough, SlowEnds}
use Rattle.motor.specs.Track.{OneStep}
use Rattle.motor.specs.Group.{OneTick}
use Rattle.motor.specs.GroupCount.{EveryCount}
use Rattle.motor.specs.SlowMoves as motor
use Rattle.motor.specs.Schedule.{Schedules}
use Rattle.slots.specs.Claims.{OneService}
use Rattle.slots.specs.Rows.{SlotRows}
use Rattle.unit.specs.Readings.{Readings}
use Rattle.unit.specs.Takes.{Takes}
use Rattle.unit.specs.Passing.{TimePasses}
use Rattle.unit.specs.Quiet.{QuietTicks}
use Rattle.unit.specs.Rows.{Rows}
use Rattle.history.specs.Leaves.{WritesLeave}
use Rattle.history.specs.Always.{Always}
use Rattle.history.specs.Timers.{TimersCount}
use Rattle.history.specs.Served.{ServedWithin}
use Rattle.history.specs.Late.{HowLate}
use Rattle.history.specs.Term3.{CallsAre, Term3}
use Rattle.history.specs.SlowMoves as history
use Rattle.isolation.specs.OneMove.{OneMove}
use Rattle.moves.specs.Moves.{Moves}
use Rattle.moves.specs.Trap.{Trap}
use Rattle.trials.specs.Trials.{Trials}
use Rattle.trials.specs.History.{Met}
use Rattle.trials.specs.Winder.{Winds}
use Rattle.trials.specs.AtOnce.{AtOnce}
use Rattle.pack.specs.Exact.{OneState}
use Rattle.text.specs.Claims.{DecimalShort}
use Rattle.parse.specs.Claims as parse
use Rattle.script.specs.Claims as script
use Rattle.script.specs.Claims.{HexIsWord, DecimalIsNumber}
use Rattle.wave.specs.Claims.{Short}
use Rattle.drawing.specs.Claims as drawing
use Rattle.tpu.specs.Refusals.{Refusals}
use Rattle.nearest.specs.Claims.{Nearest}
use Rattle.sheet.specs.Claims as sheet
use Rattle.sheet.specs.Claims.{Faster}
use Rattle.ramp.specs.Claims.{Ramps}
use Rattle.numeral.specs.Claims.{DecimalWhole, DecimalParts, NoLonger}
use Rattle.ramp_lines.specs.Claims as ramp_lines
use Rattle.ramp_trials.specs.Numbers.{TextsRight}
use Rattle.ramp_trials.specs.Sheets.{SheetsRight}
use Rattle.blocks.specs.Claims.{Sound, Finds}
use Rattle.board.specs.Saves.{Saves}
use Rattle.board.specs.Loads.{Addresses, Loads}
use Rattle.board.specs.RoundTrip.{RoundTrip}
use Rattle.board.specs.History.{BoardHistory}

-- term 1: which calls are taken and what each answers, what a refused one and a write leave alone, and that no motor moves without setup
pub record EveryCall : Type 0 where
  pub calls : CallsAre
  pub takes : Takes
  pub readings : Readings
  pub writes : WritesLeave
  pub always : Always

-- term 2: beside the contracts, which have each register, pin and interrupt bit by definition, what a tick and a due match are; the trials
-- to be proved, and short runs
pub record EveryTick : Type 0 where
  pub time : TimePasses
  pub quiet : QuietTicks
  pub due : FallsDue
  pub test : Enough
  pub trials : Trials
  pub rows : Rows

-- term 3: one service, one tick and every count of one group; every list of calls; and a history that meets each premise
pub record EveryHistory : Type 0 where
  pub one-step : OneStep
  pub one-tick : OneTick
  pub every-count : EveryCount
  pub term-3 : Term3
  pub met : Met

-- the programs for the bench and the calls for C, whose words are exactly one state
pub record AtTheBench : Type 0 where
  pub line-cut : parse.CutSame
  pub reply-cut : script.CutSame
  pub drawing-cut : drawing.CutSame
  pub reply-fits : script.NoneLonger
  pub word-read-back : HexIsWord
  pub number-read-back : DecimalIsNumber
  pub digits : DecimalShort
  pub tick-fits : Short
  pub drawing-fits : drawing.NoneLonger
  pub refusals : Refusals
  pub one_state : OneState

-- request #101
pub record MotorSheet : Type 0 where
  pub nearest : Nearest
  pub numbers : sheet.Takes
  pub faster : Faster
  pub ramps : Ramps
  pub sheets : SheetsRight
  pub whole : DecimalWhole
  pub parts : DecimalParts
  pub no_longer : NoLonger
  pub texts : TextsRight
  pub reply-fits : ramp_lines.NoneLonger
  pub cut-same : ramp_lines.CutSame

-- request #102
pub record Settings : Type 0 where
  pub sound : Sound
  pub finds : Finds
  pub addresses : Addresses
  pub saves : Saves
  pub loads : Loads
  pub round_trip : RoundTrip
  pub history : BoardHistory

-- request #103: one decision, every move of one group, every list of calls
pub record RateCount : Type 0 where
  pub ends : SlowEnds
  pub moves : motor.SlowMoves
  pub history : history.SlowMoves

-- request #105 as #107 restates it: one move in every two lists of calls; two that meet its premises; and what would be wrong if targets
-- counted from the request only. `history` of `Settings` has it with saves and loads
pub record TwoFrames : Type 0 where
  pub one-move : OneMove
  pub moves : Moves
  pub trap : Trap

-- request #106: what both timers show, and a winder that comes home. Kinds, groups and waits by either timer are said in `takes`,
-- `writes`, `always` and `term-3`
pub record TwoTimers : Type 0 where
  pub count : TimersCount
  pub winds : Winds

-- request #107: whom a slot goes to, slots computed, the 112 ticks in every list of calls, and when the matches of a move fall however late its services are.
-- `history` of `Settings` has the 112 with saves and loads; what one tick serves is said in `always` and `term-3`
pub record OneAtATime : Type 0 where
  pub slots : OneService
  pub rows : SlotRows
  pub served : ServedWithin
  pub schedules : Schedules

-- request #108: the number of each channel in every list of calls, and two motors of which one is served late. `history` of `Settings` has
-- it with saves and loads; `readings` and `takes` say what a read and a write there get
pub record Lateness : Type 0 where
  pub how-late : HowLate
  pub at-once : AtOnce

pub record Delivered : Type 0 where
  pub term-1 : EveryCall
  pub term-2 : EveryTick
  pub term-3 : EveryHistory
  pub bench : AtTheBench
  pub sheet : MotorSheet
  pub settings : Settings
  pub rate-count : RateCount
  pub two-frames : TwoFrames
  pub two-timers : TwoTimers
  pub one-service : OneAtATime
  pub lateness : Lateness
