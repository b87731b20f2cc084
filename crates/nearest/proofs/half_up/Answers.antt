use native.Mathlib.Omega.{arith}
use Rattle.nearest.proofs.FieldLaws.{half-up-code, half-bit-le}
use Rattle.nearest.proofs.half_up.Goals as goal

pub overflow_add-result : goal.overflow_add-result
overflow_add-result c = omega (arith, half-bit-le c.args.places c.requires.some_places c.requires.few_places)

pub returns : goal.returns
returns c = half-up-code c.args.places c.requires.some_places c.requires.few_places c.args.m
