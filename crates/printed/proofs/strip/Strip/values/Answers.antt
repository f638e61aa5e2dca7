use Rattle.std.proofs.Common.{◌≡◌, ◌+◌, ◌<◌, length, get_or, pos, refl, ap, ◌∙◌, arith, w16, SFits, rules}
use Rattle.std.proofs.lemmas.Int.{to_z-of_z}
use Rattle.face.specs.Fields.{gamma, levels}
use Rattle.printed.proofs.Laid.{laid_of}
use Rattle.matching.specs.Column.{column_value}
use Rattle.matching.specs.Counts.{sum}
use Rattle.matching.specs.Printed.{ink, free_rows, value_of}
use Rattle.matching.proofs.Sums.{sum_more}
use Rattle.printed.specs.Values.{table_of}
use Rattle.printed.proofs.Entries.{no_level, laid_level, same_table, small_table}
use Rattle.printed.proofs.Strips.{weights_length, weight_is}
use Rattle.printed.proofs.strip.Strip.values.Goals as goal

pub loop-l-init : goal.loop-l-init
unfolding sum
loop-l-init c =
    let self = c.args.self.now in
    let face = self.weighed.face.bytes.now in
    let laid = laid_of self.weighed.face in
    let column = self.first + c.args.c in (
      omega (arith, c.saturating_sub-room.ensures, c.column_ink.ensures, c.height-rows.ensures.value),
      omega (arith, c.saturating_sub-room.ensures, c.height-rows.ensures.within.1),
      no_level (gamma face) (ink face column) (free_rows face column),
    )

pub ink-requires : goal.ink-requires
ink-requires c =
    let weighed = c.args.self.now.weighed in
    (c.requires, omega (arith, ap length weighed.weighed, weights_length weighed.face.bytes.now, c.loop-l-test.true))

pub overflow_add-room : goal.overflow_add-room
overflow_add-room c =
    let weighed = c.args.self.now.weighed in
    let laid = laid_of weighed.face in
    omega (arith, c.loop-l.invariant.1, c.ink.ensures.bound, ap length weighed.weighed, weights_length weighed.face.bytes.now, c.loop-l-test.true, laid.levelled.1)

pub invariant_of-level : goal.invariant_of-level
invariant_of-level c =
    let self = c.args.self.now in
    let face = self.weighed.face.bytes.now in
    let laid = laid_of self.weighed.face in
    let column = self.first + c.args.c in
    let l : c.loop-l.l < levels face = omega (arith, ap length self.weighed.weighed, weights_length face, c.loop-l-test.true) in
    record {
      small = small_table (gamma face) (ink face column) (free_rows face column) c.loop-l.l c.loop-l.table (λ i h. (laid.levels_laid i (omega arith)).over_black) (omega (arith, laid.levelled.1)) c.loop-l.invariant.2;
    }

pub loop-l-preserved : goal.loop-l-preserved
loop-l-preserved c =
    let self = c.args.self.now in
    let face = self.weighed.face.bytes.now in
    let column = self.first + c.args.c in
    let l = c.loop-l.l in
    let inv = c.loop-l.invariant in
    let count = c.ink.ensures in
    let here : l < levels face = omega (arith, ap length self.weighed.weighed, weights_length face, c.loop-l-test.true) in
    let fits : SFits w16 (get_or self.weighed.weights.now l (pos 0)) = search rules in
    let weight = to_z-of_z w16 (get_or self.weighed.weights.now l (pos 0)) fits ∙ ap (λ ws. get_or ws l (pos 0)) self.weighed.weighed ∙ weight_is face l here (pos 0) in (
      omega (arith, inv.0, count.value, sum_more l (ink face column)),
      omega (arith, inv.1, count.bound),
      c.lay-table.ensures
          ∙ same_table _ (column_value (gamma face) (ink face column) (free_rows face column) (l + 1)) (λ k h.
          laid_level (gamma face) (ink face column) (free_rows face column) l c.loop-l.table _ c.ink.result c.loop-l.room k weight count.value inv.0 inv.2 h),
    )

pub returns : goal.returns
unfolding value_of
returns c =
    let self = c.args.self.now in
    let face = self.weighed.face.bytes.now in
    let column = self.first + c.args.c in
    let f = column_value (gamma face) (ink face column) (free_rows face column) in
    let all : c.loop-l.l ≡ levels face = omega (arith, ap length self.weighed.weighed, weights_length face, c.loop-l.auto.l-end) in
    c.loop-l.invariant.2 ∙ ap (λ m. table_of (f m)) all ∙ same_table (f (levels face)) (value_of face column) (λ k h. refl)
