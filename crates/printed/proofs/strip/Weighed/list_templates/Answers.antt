use Rattle.std.proofs.Common.{◌+◌, [], ◌∷◌, ◌++◌, refl, sym, ap, ◌∙◌, arith}
use Rattle.std.proofs.lemmas.List.FromFn.{map-range_with_len_more}
use Rattle.face.specs.Fields.{columns_before}
use Rattle.face.proofs.Columns.{columns_more, columns_few}
use Rattle.printed.proofs.Laid.{laid_of}
use Rattle.printed.specs.Tabulated.{template_of}
use Rattle.printed.proofs.strip.Weighed.list_templates.Goals as goal

pub loop-t-init : goal.loop-t-init
unfolding columns_before
loop-t-init c = (c.in_ok-templates.ensures.items, refl)

pub overflow_add-first : goal.overflow_add-first
overflow_add-first c =
    let face = c.args.self.now.face.bytes.now in
    let few = columns_few face (c.loop-t.t + 1) (laid_of c.args.self.now.face) (omega (arith, c.count-count.ensures.value)) in
    omega (arith, c.loop-t.invariant.1, ap (λ r. r.width) c.template-template.ensures, columns_more face c.loop-t.t)

pub loop-t-preserved : goal.loop-t-preserved
loop-t-preserved c =
    let face = c.args.self.now.face.bytes.now in
    let t = c.loop-t.t in (
      c.in_ok-push.ensures.items ∙ (λ i. c.loop-t.invariant.0 i ++ c.template-template.ensures i ∷ []) ∙ sym (map-range_with_len_more (template_of face) 0 t t (omega arith)),
      omega (arith, c.loop-t.invariant.1, ap (λ r. r.width) c.template-template.ensures, columns_more face t),
    )
