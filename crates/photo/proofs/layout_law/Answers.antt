use Rattle.std.proofs.Common.{refl}
use Rattle.photo.specs.Verdict.{photo_verdict}
use Rattle.photo.proofs.Exact.{exactly_laid}
use Rattle.photo.proofs.layout_law.Goals as goal

pub returns : goal.returns
unfolding photo_verdict
returns c = record { named = refl; exactly = exactly_laid c.args.bytes.now c.args.rows }
