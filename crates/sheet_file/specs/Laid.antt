-- The layout of a sheet, in words. Assumes nothing.
use Rattle.std.specs.Prelude.{◌≡◌, ℕ, ◌*◌, ◌<◌, ◌≤◌, List, length}
use Rattle.scorer.specs.Meaning.{Node, ScoresLawful}
use Rattle.sheet_file.specs.Fields.{width, count, setwidth, node_entry, entry_start, exact_at, bound_at}
use Rattle.sheet_file.specs.Meaning.{sheet_meaning}

-- head, setwidths and entries follow each other, and nothing follows them
pub record SheetLaid (sheet : List ℕ) : Type 0 where
  pub sized : 4 ≤ length sheet
  pub wide : (1 ≤ width sheet) × (width sheet ≤ 2048)
  pub counted : (1 ≤ count sheet) × (count sheet ≤ 64)
  pub ends : length sheet ≡ entry_start sheet (count sheet * width sheet)
  pub set : (t : ℕ) → t < count sheet → (1 ≤ setwidth sheet t) × (setwidth sheet t ≤ 64)
  pub scored : (x t : ℕ) → Node (sheet_meaning sheet) x t → ScoresLawful (exact_at sheet (node_entry sheet x t)) (bound_at sheet (node_entry sheet x t))
