use Rattle.std.proofs.Common.{◌+◌, ◌^◌, arith, rules}
use Rattle.face.specs.Fields.{levels}
use Rattle.printed.proofs.Laid.{laid_of}
use Rattle.matching.specs.Printed.{ink}
use Rattle.printed.proofs.Summing.{summed, sum_fits}
use Rattle.printed.proofs.Strips.{ink_few}
use Rattle.printed.proofs.strip.Strip.column_ink.Goals as goal

pub sum-requires-clause-fits : goal.sum-requires-clause-fits
sum-requires-clause-fits c =
    let self = c.args.self.now in
    let face = self.weighed.face.bytes.now in
    let laid = laid_of self.weighed.face in
    sum_fits _ (ink face (self.first + c.args.c)) (levels face) c.map.ensures.source c.levels.ensures.value c.map.ensures.closure (λ x r q k. search rules)
    32 (2 ^ 64) (λ l h. ink_few face laid (self.first + c.args.c) (omega (arith, self.there)) l) (omega (arith, laid.levelled.1))

pub returns : goal.returns
returns c =
    let self = c.args.self.now in
    let face = self.weighed.face.bytes.now in
    summed _ (ink face (self.first + c.args.c)) (levels face) c.map.ensures.source c.levels.ensures.value c.map.ensures.closure (λ x r q k. search rules) c.sum.result c.sum.ensures.ran
