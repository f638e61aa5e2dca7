use Rattle.std.proofs.Common.{◌≡◌, fold, length, sym, refl, ap, ◌∙◌, arith, rules}
use Rattle.std.proofs.lemmas.Iterator.{YieldsList-from_range}
use Rattle.std.proofs.lemmas.Iterator.Consumers.{fold_from_yields_List}
use Rattle.std.specs.List.{range_with_len}
use Rattle.cells.proofs.Widths.{length_widths}
use Rattle.cells.specs.Line.{widths}
use Rattle.sweep.specs.Swept.{brought}
use Rattle.sweep.proofs.Joining.{next, sofar, folded}
use Rattle.sweep.proofs.places.join_all.Goals as goal

pub returns : goal.returns
returns g c =
    let r = g.C.Combining.rule in
    let lattice = c.args.lattice.now in
    let f = brought r g.C.Combining.held lattice.line.now lattice.cells.now c.args.p in
    let nothing = c.nothing.ensures in
    let count = c.count.result in
    let e : c.fold.result ≡ fold (next r f) c.nothing.result (range_with_len 0 count) =
    fold_from_yields_List _ (next r f) c.nothing.result c.fold.result c.fold.ensures.ran (YieldsList-from_range 0 count count refl (omega arith)) (λ a t b q k. search rules) in
    let is : c.fold.result ≡ sofar r f (length (widths lattice.line.now)) =
    e ∙ folded r f c.nothing.result (λ i. record { value = nothing.value i; last = nothing.last i }) count ∙ ap (sofar r f) (c.count.ensures ∙ sym (length_widths lattice.line.now)) in
    record { value = ap (λ j. j.value) is; last = ap (λ j. j.last) is }
