use Rattle.std.proofs.Common.{◌+◌, ◌*◌, ◌^◌, sym, ap, ◌∙◌, arith, rules}
use Rattle.matching.specs.Counts.{sum, one_if}
use Rattle.matching.specs.Words.{word_of}
use Rattle.matching.proofs.Rows.{count_le}
use Rattle.matching.proofs.Words.{word_below, word_more}
use Rattle.matching.proofs.Sums.{sum_more}
use Rattle.printed.specs.Gathered.{image_of}
use Rattle.printed.proofs.image.Column.of.Goals as goal

pub loop-y-init : goal.loop-y-init
unfolding word_of sum
loop-y-init c = search rules

pub with_row-column-requires : goal.with_row-column-requires
with_row-column-requires c =
    let y = c.loop-y.y in
    let p = image_of c.args.photo.now c.args.x in
    let inv = c.loop-y.invariant in
    (omega arith, (omega (arith, ap (λ k. k.word) inv, word_below y p), omega (arith, ap (λ k. k.black) inv, count_le y p)))

pub loop-y-preserved : goal.loop-y-preserved
loop-y-preserved c =
    let y = c.loop-y.y in
    let p = image_of c.args.photo.now c.args.x in
    let inv = c.loop-y.invariant in
    let next = c.with_row-column.ensures in
    let word = next.word ∙ (λ i. one_if (c.black.ensures.value i) * 2 ^ y + (inv i).word) ∙ sym (word_more y p) in
    let black = next.black ∙ (λ i. (inv i).black + one_if (c.black.ensures.value i)) ∙ sym (sum_more y (λ k. one_if (p k))) in
    λ i. record { word = word i; black = black i }
