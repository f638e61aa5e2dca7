-- What is printed of a line. Assumes nothing.
use Rattle.std.specs.Prelude.{ℕ, List, ◌++◌, codes}
use Rattle.std.specs.Fmt.{decimal}
use Rattle.listing.specs.declared.line.Line.{Line}

-- its columns and its templates
abbrev pub printed : Line → List ℕ
printed line = codes "LINE " ++ (decimal line.width ++ (codes " " ++ decimal line.count))
