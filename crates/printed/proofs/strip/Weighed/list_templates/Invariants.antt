use Rattle.std.proofs.Common.{◌≡◌, map, vec_items}
use Rattle.std.specs.List.{range_with_len}
use Rattle.face.specs.Fields.{columns_before}
use Rattle.printed.specs.Tabulated.{template_of}
use Rattle.printed.proofs.strip.Weighed.list_templates.Given as goal

abbrev pub invariant-loop-t : goal.invariant-loop-t
invariant-loop-t l =
    let face = l.self.face.bytes.now in
    (vec_items l.templates ≡ map (template_of face) (range_with_len 0 l.t)) × (l.first ≡ columns_before face l.t)
