use Rattle.std.proofs.Common.{refl}
use Rattle.refusal.proofs.First.{first_is}
use Rattle.face.specs.Verdict.{face_verdict}
use Rattle.face.proofs.Exact.{exactly_laid}
use Rattle.face.proofs.checks.layout_law.Goals as goal

pub returns : goal.returns
unfolding face_verdict
returns c = record { named = refl; exactly = exactly_laid c.args.bytes.now; first = first_is }
