use Rattle.std.proofs.Common.{arith, rules}
use Rattle.printed.proofs.Laid.{laid_of}
use Rattle.printed.proofs.Strips.{all_few, strip_there}
use Rattle.printed.proofs.strip.Weighed.strip.Goals as goal

pub overflow_add-first : goal.overflow_add-first
overflow_add-first c =
    let face = c.args.self.now.face in
    omega (arith, all_few face.bytes.now (laid_of face))

pub unwrap-requires : goal.unwrap-requires
unwrap-requires c =
    let face = c.args.self.now.face in
    let there = strip_there face.bytes.now (laid_of face) c.args.first c.args.width c.requires in
    search rules
