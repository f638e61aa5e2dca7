use Rattle.std.proofs.Common.{refl}
use Rattle.refusal.proofs.First.{first_is}
use Rattle.sheet_file.specs.Verdict.{sheet_verdict}
use Rattle.sheet_file.proofs.Exact.{exactly_laid}
use Rattle.sheet_file.proofs.layout_law.Goals as goal

pub returns : goal.returns
unfolding sheet_verdict
returns c = record { named = refl; exactly = exactly_laid c.args.bytes.now; first = first_is }
