use Rattle.std.proofs.Common.{arith}
use Rattle.std.proofs.lemmas.Nat.{mul-le}
use Rattle.sheet_file.specs.Fields.{width}
use Rattle.sheet.proofs.few_entries.Goals as goal

pub returns : goal.returns
returns c = mul-le c.args.t (width c.args.bytes.now) 64 2048 (omega (arith, c.requires.0.counted.1)) c.requires.0.wide.1
