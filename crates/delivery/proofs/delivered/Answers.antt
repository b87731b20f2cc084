use Rattle.words.proofs.ClockLaws.{falls-due}
use Rattle.motor.proofs.ServiceLaws.{enough, slow-ends}
use Rattle.motor.proofs.OneStep.{one-step}
use Rattle.motor.proofs.OneTick.{one-tick}
use Rattle.motor.proofs.Term3.{every-count}
use Rattle.motor.proofs.SlowMoves as motor
use Rattle.unit.proofs.Readings.{readings}
use Rattle.unit.proofs.Takes.{takes}
use Rattle.unit.proofs.Passing.{time-passes}
use Rattle.unit.proofs.Quiet.{quiet-ticks}
use Rattle.unit.proofs.Computed.{rows}
use Rattle.history.proofs.Calls.{calls_are}
use Rattle.slots.proofs.Within.{one-service}
use Rattle.slots.proofs.Computed as slots
use Rattle.motor.proofs.Schedule.{schedules}
use Rattle.history.proofs.Served.{served-within}
use Rattle.history.proofs.Late.{how-late}
use Rattle.history.proofs.Timers.{timers-count}
use Rattle.history.proofs.Leaves.{writes-leave}
use Rattle.history.proofs.Always.{always}
use Rattle.history.proofs.Term3.{term-3}
use Rattle.history.proofs.SlowMoves as history
use Rattle.isolation.proofs.OneMove.{one-move}
use Rattle.moves.proofs.Moves.{moves}
use Rattle.moves.proofs.Trap.{trap}
use Rattle.trials.proofs.Trials.{trials}
use Rattle.trials.proofs.History.{met}
use Rattle.trials.proofs.Winder.{winds}
use Rattle.trials.proofs.AtOnce.{at-once}
use Rattle.pack.proofs.Back.{one_state}
use Rattle.text.proofs.LengthLaws.{decimal-short}
use Rattle.parse.proofs.LineLaws as parse
use Rattle.script.proofs.LengthLaws as script
use Rattle.script.proofs.ReplyingLaws as replying
use Rattle.script.proofs.NumeralLaws.{decimal-is-number, hex-is-word}
use Rattle.wave.proofs.LengthLaws.{short}
use Rattle.drawing.proofs.LengthLaws as drawing
use Rattle.drawing.proofs.DrawingLaws as drawn
use Rattle.tpu.proofs.Refused.{refusals}
use Rattle.nearest.proofs.NearestLaws.{nearest-whole}
use Rattle.sheet.proofs.NumberLaws as numbers
use Rattle.sheet.proofs.Order.{faster}
use Rattle.ramp.proofs.RampLaws.{ramps}
use Rattle.numeral.proofs.LengthLaws.{no_longer}
use Rattle.numeral.proofs.PartsLaws.{decimal-whole, decimal-parts}
use Rattle.ramp_lines.proofs.LengthLaws as ramp_lines
use Rattle.ramp_lines.proofs.LineLaws as lines
use Rattle.ramp_trials.proofs.Examples.{texts-right, sheets-right}
use Rattle.blocks.proofs.SoundLaws.{sound}
use Rattle.blocks.proofs.FindingLaws.{finds}
use Rattle.board.proofs.AddressLaws.{addresses}
use Rattle.board.proofs.SaveLaws.{saves}
use Rattle.board.proofs.LoadLaws.{loads}
use Rattle.board.proofs.RoundTripLaws.{round_trip}
use Rattle.board.proofs.HistoryLaws.{board-history}
use Rattle.delivery.specs.Delivery.{EveryCall, EveryTick, EveryHistory, AtTheBench, MotorSheet, Settings, RateCount, TwoFrames, OneAtATime}
use Rattle.delivery.proofs.delivered.Goals as goal

every_call : EveryCall
every_call = record { calls = calls_are; takes = takes; readings = readings; writes = writes-leave; always = always }

every-tick : EveryTick
every-tick = record { time = time-passes; quiet = quiet-ticks; due = falls-due; test = enough; trials = trials; rows = rows }

every-history : EveryHistory
every-history = record { one-step = one-step; one-tick = one-tick; every-count = every-count; term-3 = term-3; met = met }

bench : AtTheBench
bench =
    record {
      line-cut = parse.cut-same;
      reply-cut = replying.cut-same;
      drawing-cut = drawn.cut-same;
      reply-fits = script.none-longer;
      word-read-back = hex-is-word;
      number-read-back = decimal-is-number;
      digits = decimal-short;
      tick-fits = short;
      drawing-fits = drawing.none-longer;
      refusals = refusals;
      one_state = one_state;
    }

sheet : MotorSheet
sheet =
    record {
      nearest = nearest-whole;
      numbers = numbers.takes;
      faster = faster;
      ramps = ramps;
      sheets = sheets-right;
      whole = decimal-whole;
      parts = decimal-parts;
      no_longer = no_longer;
      texts = texts-right;
      reply-fits = ramp_lines.none-longer;
      cut-same = lines.cut-same;
    }

settings : Settings
settings =
    record {
      sound = sound;
      finds = finds;
      addresses = addresses;
      saves = saves;
      loads = loads;
      round_trip = round_trip loads;
      history = board-history;
    }

rate-count : RateCount
rate-count = record { ends = slow-ends; moves = motor.slow-moves; history = history.slow-moves }

two-frames : TwoFrames
two-frames = record { one-move = one-move; moves = moves; trap = trap }

one-at-a-time : OneAtATime
one-at-a-time = record { slots = one-service; rows = slots.rows; served = served-within; schedules = schedules }

pub returns : goal.returns
returns c =
    record {
      term-1 = every_call;
      term-2 = every-tick;
      term-3 = every-history;
      bench = bench;
      sheet = sheet;
      settings = settings;
      rate-count = rate-count;
      two-frames = two-frames;
      two-timers = record { count = timers-count; winds = winds };
      one-service = one-at-a-time;
      lateness = record { how-late = how-late; at-once = at-once };
    }
