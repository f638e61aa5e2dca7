use Rattle.std.proofs.Common.{◌+◌, ap, ◌∙◌, arith}
use lib.Count.{ones}
use Rattle.printed.proofs.Laid.{laid_of}
use Rattle.printed.proofs.Strips.{ink_is}
use Rattle.printed.proofs.strip.Strip.ink.Goals as goal

pub returns-clause-value : goal.returns-clause-value
returns-clause-value c =
    let self = c.args.self.now in
    let face = self.weighed.face in
    c.ones_in.ensures.value ∙ ap ones c.word.ensures
    ∙ ink_is face.bytes.now (laid_of face) (self.first + c.args.c) (omega (arith, self.there, c.requires.0)) c.args.l c.requires.1
