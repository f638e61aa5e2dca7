use Rattle.sheet_file.proofs.Exact.{exactly_head}
use Rattle.sheet_file.proofs.Head.new.Goals as goal

pub invariant_of-result : goal.invariant_of-result
invariant_of-result c = record { headed = (exactly_head c.args.bytes.now).0 c.requires }
