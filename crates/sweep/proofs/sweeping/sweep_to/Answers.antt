use Rattle.std.proofs.Common.{◌≤◌, length, refl, ap, ◌∙◌, arith}
use Rattle.cells.proofs.Views.{enough_cells}
use Rattle.cells.specs.Lattice.{relaid}
use Rattle.cells.specs.Layout.{needed}
use Rattle.sweep.specs.Swept.{swept_to, swept_on}
use Rattle.sweep.proofs.Midway.{swept_next}
use Rattle.sweep.proofs.sweeping.sweep_to.Goals as goal

pub loop-p-init : goal.loop-p-init
unfolding swept_to
loop-p-init g c = refl

pub loop-p-preserved : goal.loop-p-preserved
loop-p-preserved g c =
    let C = g.C.Combining in
    let old = c.args.lattice.now in
    let l = old.line.now in
    let enough : needed l ≤ length old.cells.now = enough_cells l (length old.cells.now) c.requires.0 in
    c.sweep_place.ensures
    ∙ ap (λ lattice. relaid lattice (swept_on C.rule C.held C.stored lattice.line.now lattice.cells.now c.loop-p.p)) c.loop-p.invariant
    ∙ ap (relaid old) (swept_next C.rule C.stored l old.cells.now enough C.held C.kept c.loop-p.p (omega arith))
