use Rattle.std.proofs.Common.{◌≡◌, ◌^◌, ◌<◌, drop}
use Rattle.parse.specs.Parsing.{number_after, number_of}
use Rattle.parse.proofs.number.Given as goal

abbrev pub invariant-loop-b : goal.invariant-loop-b
invariant-loop-b l = record {
  same : number_after l.base l.n (drop l.b-index l.digits) ≡ number_of l.base l.digits;
  small : l.n < l.base ^ l.b-index;
}
