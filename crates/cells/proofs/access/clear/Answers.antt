use Rattle.std.proofs.Common.{◌≡◌, ◌≤◌, min, ◌++◌, length, drop, sym, ◌∙◌, arith, length-take-le}
use Rattle.std.proofs.Math.ListN.{replicate}
use Rattle.cells.specs.Blank.{blank}
use Rattle.cells.proofs.Blanks.{blanked_front}
use Rattle.cells.proofs.access.clear.Goals as goal

pub returns : goal.returns
returns c =
    let cells = c.args.cells.now in
    let end = c.min-end.result in
    let few : end ≤ length cells = omega arith in
    let front : c.fill.new.self ≡ replicate (min c.args.n (length cells)) blank = c.fill.ensures.after (λ y e. e) ∙ (λ i. replicate ((length-take-le end cells few ∙ c.min-end.ensures) i) (c.blank.ensures i)) in
    (λ i. front i ++ drop (c.min-end.ensures i) cells) ∙ sym (blanked_front c.args.n cells)
