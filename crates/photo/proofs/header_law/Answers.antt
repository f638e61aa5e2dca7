use Rattle.std.proofs.Common.{is_ok, ap}
use Rattle.photo.specs.Verdict.{header_of, told_header}
use Rattle.photo.proofs.header_law.Goals as goal

pub returns : goal.returns
unfolding header_of
returns c = record { accepted = ap is_ok c.requires; same = ap told_header c.requires }
