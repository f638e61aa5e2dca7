use Rattle.std.proofs.Common.{◌+◌, refl, arith}
use Rattle.printed.proofs.Laid.{laid_of}
use Rattle.matching.specs.Counts.{sum}
use Rattle.matching.specs.Printed.{ink}
use Rattle.matching.proofs.Sums.{sum_more}
use Rattle.printed.proofs.Strips.{all_few}
use Rattle.printed.proofs.strip.Strip.pixels.Goals as goal

pub loop-c-init : goal.loop-c-init
unfolding sum
loop-c-init c = (refl, omega arith)

pub overflow_add-pixels : goal.overflow_add-pixels
overflow_add-pixels c =
    let self = c.args.self.now in
    let face = self.weighed.face in
    omega (arith, self.there, all_few face.bytes.now (laid_of face))

pub loop-c-preserved : goal.loop-c-preserved
loop-c-preserved c =
    let self = c.args.self.now in
    let more = sum_more c.loop-c.c (λ i. ink self.weighed.face.bytes.now (self.first + i) c.args.l) in
    let inv = c.loop-c.invariant in
    (omega arith, omega arith)
