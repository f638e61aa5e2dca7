use Rattle.std.proofs.Common.{◌≡◌, ℕ, ◌<◌, length, slice_index}
use Rattle.cells.proofs.line.measures.setwidths.Given as goal

abbrev pub invariant-loop-t : goal.invariant-loop-t
invariant-loop-t g l =
    let m = g.S.Scorer.meaning l.scorer in
    ((t : ℕ) → t < l.t → slice_index l.setwidths t ≡ m.setwidth t) × (length l.setwidths ≡ 64)
