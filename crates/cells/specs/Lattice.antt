-- A line with the cells that are lent for it. Assumes nothing.
use Rattle.std.specs.Prelude.{List}
use Rattle.cells.specs.declared.cell.Cell.{Cell}
use Rattle.cells.specs.declared.lattice.Lattice.{Lattice}

-- the same line over the same loan, whose cells are now these
abbrev pub relaid : Lattice → List Cell → Lattice
relaid l cells = record l { cells = record l.cells { now = cells } }
