-- The measures of a line, as the code holds them. Assumes nothing.
use Rattle.std.specs.Prelude.{ℕ, List, take, Option, nat_lt, slice_index}
use Rattle.octets.specs.Absent.{present}
use Rattle.cells.specs.declared.line.Line.{Line}

-- the setwidths of the templates
unfoldable pub widths : Line → List ℕ
widths l = take l.count l.setwidths

-- how many templates there are
abbrev pub templates : Line → ℕ
templates l = l.count

abbrev pub line_setwidth : Line → ℕ → Option ℕ
line_setwidth l t = present (nat_lt t (templates l)) (slice_index (widths l) t)
