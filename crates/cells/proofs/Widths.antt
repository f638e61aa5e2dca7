-- The setwidths of a line are as many as its templates, and those of a lawful scorer are from 1 to 64. Assumes nothing.
use Rattle.std.proofs.Common.{◌≡◌, ℕ, ◌<◌, ◌≤◌, List, length, take, get_or, sym, ap, ◌∙◌, arith, zero-add}
use Rattle.std.proofs.lemmas.List.{length-take-le, get_or-take}
use Rattle.std.proofs.lemmas.List.FromFn.{get_or-map-range_with_len}
use Rattle.cells.specs.Line.{widths, templates}
use Rattle.cells.specs.declared.line.Line.{Line}
use Rattle.paths.specs.Paths.{setwidths_of}
use Rattle.scorer.specs.Meaning.{Meaning, Lawful}

pub length_widths : (l : Line) → length (widths l) ≡ templates l
unfolding widths
length_widths l = length-take-le l.count l.setwidths (omega (arith, l.long, l.counted.1))

-- a list that begins with a lawful scorer's setwidths
pub setwidths_set : (m : Meaning) → Lawful m → (ds : List ℕ) → take m.count ds ≡ setwidths_of m → (t : ℕ) → t < m.count → (1 ≤ get_or ds t 0) × (get_or ds t 0 ≤ 64)
setwidths_set m lawful ds e t known =
    let is : get_or ds t 0 ≡ m.setwidth t =
    sym (get_or-take m.count ds t 0 known) ∙ ap (λ xs. get_or xs t 0) e ∙ get_or-map-range_with_len m.setwidth 0 m.count t t 0 known (zero-add t) in
    rw is (lawful.set t known)
