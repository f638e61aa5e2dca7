use Rattle.std.proofs.Common.{arith}
use Rattle.printed.proofs.Laid.{laid_of}
use Rattle.printed.proofs.Strips.{all_few, pixels_few}
use Rattle.printed.proofs.strip.Strip.level_worth.Goals as goal

pub earned-requires : goal.earned-requires
earned-requires c =
    let self = c.args.self.now in
    let face = self.weighed.face.bytes.now in
    let laid = laid_of self.weighed.face in
    omega (arith, c.pixels.ensures, self.there, all_few face laid, pixels_few face laid self.first self.width self.there c.args.l)
