use Rattle.std.proofs.Common.{ap, arith}
use Rattle.printed.proofs.Laid.{laid_of}
use Rattle.printed.proofs.Strips.{box_there}
use Rattle.printed.proofs.printed_scorer.Node.stand.Goals as goal

pub strip-requires : goal.strip-requires
strip-requires c =
    let self = c.args.self in
    let face = self.line.now.face in
    let laid = laid_of face in
    omega (arith, ap (λ p. p.first) self.laid, ap (λ p. p.width) self.laid, box_there face.bytes.now laid self.t self.known)
