-- Where things lie in the cells: a row for each template, one cell for each column and one more, and then the row of the
-- places. What is read where nothing lies is a blank cell, and what is written there is lost. Assumes nothing.
use Rattle.std.specs.Prelude.{ℕ, zero, suc, ◌+◌, ◌*◌, Bool, ◌&&◌, List, ℤ, Some, None, Option, nat_le, nat_lt, slice_index, slice_index_or, slice_set}
use Rattle.octets.specs.Absent.{present}
use Rattle.refusal.specs.First.{Verdict, ensure}
use Rattle.refusal.specs.declared.Refusal.TheVariants.{CellsTooFew}
use Rattle.cells.specs.Blank.{blank}
use Rattle.cells.specs.Line.{widths, templates}
use Rattle.cells.specs.declared.cell.Cell.{Cell}
use Rattle.cells.specs.declared.line.Line.{Line}

-- the cell at column x of row t
abbrev pub cell_index : Line → ℕ → ℕ → ℕ
cell_index l x t = t * (l.width + 1) + x

-- how many cells a line needs
abbrev pub needed : Line → ℕ
needed l = (templates l + 1) * (l.width + 1)

abbrev pub cells_verdict : Line → ℕ → Verdict
cells_verdict l cells = ensure (nat_le (needed l) cells) (CellsTooFew (needed l))

-- column x and template t are a node: the template ends on the line
abbrev pub on_line : Line → ℕ → ℕ → Bool
on_line l x t = nat_lt t (templates l) && nat_le (x + slice_index (widths l) t) l.width

abbrev pub is_place : Line → ℕ → Bool
is_place l p = nat_le p l.width

-- where the cell of a node lies, and that of a place
unfoldable pub node_index : Line → ℕ → ℕ → Option ℕ
node_index l x t = present (on_line l x t) (cell_index l x t)

unfoldable pub place_index : Line → ℕ → Option ℕ
place_index l p = present (is_place l p) (cell_index l p (templates l))

unfoldable pub cell_at : List Cell → Option ℕ → Cell
cell_at cells None = blank
cell_at cells (Some i) = slice_index_or cells i blank

unfoldable pub with_cell : List Cell → Option ℕ → Cell → List Cell
with_cell cells None c = cells
with_cell cells (Some i) c = slice_set cells i c

-- the cell of a node, and that of a place
abbrev pub node_cell : Line → List Cell → ℕ → ℕ → Cell
node_cell l cells x t = cell_at cells (node_index l x t)

abbrev pub place_cell : Line → List Cell → ℕ → Cell
place_cell l cells p = cell_at cells (place_index l p)

-- the cells with another one for a node, and for a place
abbrev pub with_node : Line → List Cell → ℕ → ℕ → Cell → List Cell
with_node l cells x t c = with_cell cells (node_index l x t) c

abbrev pub with_place : Line → List Cell → ℕ → Cell → List Cell
with_place l cells p c = with_cell cells (place_index l p) c

-- the cells with the first n of them blank
unfoldable pub blanked : ℕ → List Cell → List Cell
blanked zero cells = cells
blanked (suc n) cells = slice_set (blanked n cells) n blank

-- the standing score of a node
abbrev pub score_in : Line → List Cell → ℕ → ℕ → ℤ
score_in l cells x t = (node_cell l cells x t).score
