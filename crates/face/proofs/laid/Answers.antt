use Rattle.face.proofs.Exact.{laid_from_is_ok}
use Rattle.face.proofs.laid.Goals as goal

pub returns : goal.returns
returns c = laid_from_is_ok c.args.bytes.now c.requires
