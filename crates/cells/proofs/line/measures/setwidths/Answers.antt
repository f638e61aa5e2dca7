use Rattle.std.proofs.Common.{◌<◌, ◌≤◌, ◌≢◌, length, take, ◌∙◌, arith, get_or-set_other, get_or-set_same, below_more}
use Rattle.std.proofs.lemmas.List.{length-set, length-take-le, get_or-take}
use Rattle.std.proofs.lemmas.List.FromFn.{fill_by_all}
use Rattle.cells.proofs.Widths.{setwidths_set}
use Rattle.cells.proofs.line.measures.setwidths.Goals as goal

pub loop-t-preserved : goal.loop-t-preserved
loop-t-preserved g c =
    let told = c.loop-t.invariant.0 in
    let long = c.loop-t.invariant.1 in
    let lt : c.loop-t.t < length c.loop-t.setwidths = omega (arith, c.lawful.ensures.counted.1) in (
      below_more _ _
          (λ k h. let ne : k ≢ c.loop-t.t = omega arith in rw get_or-set_other (told k h))
          (rw get_or-set_same c.setwidth_of.ensures),
      length-set _ _ _ ∙ long,
    )

pub returns-clause-told : goal.returns-clause-told
returns-clause-told g c =
    let m = g.S.Scorer.meaning c.args.scorer.now in
    let ds = c.loop-t.setwidths in
    let few : m.count ≤ length ds = omega (arith, c.loop-t.invariant.1, c.lawful.ensures.counted.1) in
    fill_by_all m.setwidth (take m.count ds) m.count 0 (length-take-le m.count ds few)
    (λ k lt. get_or-take m.count ds k 0 lt ∙ c.loop-t.invariant.0 k (omega (arith, c.count-t-end.ensures)))

pub returns-clause-set : goal.returns-clause-set
returns-clause-set g c =
    let m = g.S.Scorer.meaning c.args.scorer.now in
    setwidths_set m c.lawful.ensures c.loop-t.setwidths (returns-clause-told g c)
