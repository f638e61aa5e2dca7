use Rattle.std.proofs.Common.{◌≡◌}
use Rattle.cells.specs.Lattice.{relaid}
use Rattle.sweep.specs.Swept.{swept_to}
use Rattle.sweep.proofs.sweeping.sweep_to.Given as goal

abbrev pub invariant-loop-p : goal.invariant-loop-p
invariant-loop-p g l =
    let C = g.C.Combining in
    let old = l.initial.lattice in
    l.lattice ≡ relaid old (swept_to C.rule C.stored old.line.now old.cells.now l.p)
