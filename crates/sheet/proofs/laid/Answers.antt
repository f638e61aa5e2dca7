use Rattle.sheet_file.proofs.Lawful.{sheet_laid}
use Rattle.sheet.proofs.laid.Goals as goal

pub returns : goal.returns
returns c = sheet_laid c.args.bytes.now c.requires
