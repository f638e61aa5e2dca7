-- The cell that is all zero, and the cells of places with their totals. Assumes nothing.
use Rattle.std.specs.Prelude.{ℕ, true, false, cond, ℤ, pos, Some, None, Option}
use Rattle.cells.specs.declared.cell.Cell.{Cell}

abbrev pub blank : Cell
blank = record { score = pos 0; marked = false; fresh = false; template = 0; stop = 0 }

-- the cell of a place with a total, or none, and a last template
abbrev pub of_place : Option ℤ → ℕ → Cell
of_place None template = record blank { template = template }
of_place (Some total) template = record blank { score = total; marked = true; template = template }

-- the total that the cell of a place holds
abbrev pub total_in : Cell → Option ℤ
total_in c = cond c.marked (Some c.score) None
