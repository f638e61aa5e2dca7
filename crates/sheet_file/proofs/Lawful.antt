-- What a sheet that is refused nothing tells of a line is lawful. Assumes nothing.
use Rattle.std.proofs.Common.{◌≡◌, ℕ, true, List, is_ok}
use Rattle.refusal.proofs.First.{ok_from_is_ok}
use Rattle.scorer.specs.Meaning.{Lawful}
use Rattle.sheet_file.specs.Laid.{SheetLaid}
use Rattle.sheet_file.specs.Meaning.{sheet_meaning}
use Rattle.sheet_file.specs.Verdict.{sheet_verdict}
use Rattle.sheet_file.proofs.Exact.{exactly_laid}

pub sheet_laid : (sheet : List ℕ) → is_ok (sheet_verdict sheet) ≡ true → SheetLaid sheet
sheet_laid sheet ok = (exactly_laid sheet).0 (ok_from_is_ok (sheet_verdict sheet) ok)

laid_lawful : (sheet : List ℕ) → SheetLaid sheet → Lawful (sheet_meaning sheet)
laid_lawful sheet laid = record { wide = laid.wide; counted = laid.counted; set = laid.set; scored = laid.scored }

pub sheet_lawful : (sheet : List ℕ) → is_ok (sheet_verdict sheet) ≡ true → Lawful (sheet_meaning sheet)
sheet_lawful sheet ok = laid_lawful sheet (sheet_laid sheet ok)
