use Rattle.std.proofs.Common.{◌≡◌, length, ap, ◌∙◌, arith}
use Rattle.face.specs.Fields.{levels}
use Rattle.printed.proofs.Laid.{laid_of}
use Rattle.printed.proofs.Strips.{weights_length}
use Rattle.printed.proofs.strip.Weighed.levels.Goals as goal

pub returns : goal.returns
returns c =
    let self = c.args.self.now in
    let face = self.face.bytes.now in
    let laid = laid_of self.face in
    let many : length self.weights.now ≡ levels face = ap length self.weighed ∙ weights_length face in
    record { value = many; within = (omega (arith, laid.levelled.0), omega (arith, laid.levelled.1)) }
