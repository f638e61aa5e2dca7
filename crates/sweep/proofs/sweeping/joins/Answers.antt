use Rattle.std.proofs.Common.{◌≤◌, length}
use Rattle.cells.proofs.Views.{enough_cells}
use Rattle.cells.specs.Layout.{needed}
use Rattle.sweep.proofs.Midway.{sweep_joins}
use Rattle.sweep.proofs.sweeping.joins.Goals as goal

pub returns : goal.returns
returns g c =
    let C = g.C.Combining in
    let old = c.args.lattice.now in
    let l = old.line.now in
    let enough : needed l ≤ length old.cells.now = enough_cells l (length old.cells.now) c.requires in
    sweep_joins C.rule C.stored l old.cells.now enough C.held C.kept C.lawful
