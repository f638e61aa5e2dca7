use Rattle.photo.proofs.Exact.{laid_from_is_ok}
use Rattle.photo.proofs.laid.Goals as goal

pub returns : goal.returns
returns c = laid_from_is_ok c.args.bytes.now c.args.rows c.requires
