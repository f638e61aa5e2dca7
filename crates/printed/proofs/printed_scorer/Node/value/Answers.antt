use Rattle.std.proofs.Common.{ap, arith}
use Rattle.printed.proofs.Laid.{laid_of}
use Rattle.printed.proofs.Strips.{all_few, box_there}
use Rattle.printed.proofs.printed_scorer.Node.value.Goals as goal

pub overflow_add-self : goal.overflow_add-self
overflow_add-self c =
    let self = c.args.self.now in
    let face = self.line.now.face in
    let laid = laid_of face in
    omega (arith, c.requires, ap (λ p. p.first) self.laid, box_there face.bytes.now laid self.t self.known, all_few face.bytes.now laid)

pub overflow_add-self-2 : goal.overflow_add-self-2
overflow_add-self-2 c =
    let self = c.args.self.now in
    let face = self.line.now.face in
    let laid = laid_of face in
    omega (arith, self.low, c.requires, (laid.templates_laid self.t self.known).boxed)

pub value_at-requires : goal.value_at-requires
value_at-requires c =
    let self = c.args.self.now in
    let face = self.line.now.face in
    let laid = laid_of face in
    omega (arith, c.requires, ap (λ p. p.first) self.laid, box_there face.bytes.now laid self.t self.known)
