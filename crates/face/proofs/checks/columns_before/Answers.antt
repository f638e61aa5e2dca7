use Rattle.std.proofs.Common.{◌≡◌, ◌+◌, ◌^◌, rules, refl, arith}
use Rattle.std.proofs.lemmas.Iterator.{YieldsList-from_range, YieldsList-from_map}
use Rattle.std.proofs.lemmas.Iterator.Adapters.{fits_from_length, at_most_from_yields_List}
use Rattle.std.proofs.lemmas.Iterator.Consumers.{YieldsList-at, sum_by_from_yields_List}
use Rattle.std.proofs.lemmas.List.FromFn.{length-range_with_len}
use Rattle.std.specs.List.{range_with_len}
use Rattle.octets.specs.Numbers.{byte_at}
use Rattle.face.specs.Fields.{template_start, box_width, columns_before}
use Rattle.face.proofs.Columns.{columns_at_most}
use Rattle.face.proofs.checks.columns_before.Goals as goal

pub sum-requires-clause-fits : goal.sum-requires-clause-fits
sum-requires-clause-fits c =
    let t = c.args.t in
    fits_from_length {s = c.map.result} _ _ 65536 (2 ^ 64) (at_most_from_yields_List (YieldsList-at c.map.ensures.source (YieldsList-from_range 0 t t refl (omega arith))) (omega (arith, length-range_with_len 0 t))) c.map.ensures.closure (omega arith) (λ x r q k. search rules)

pub returns : goal.returns
unfolding byte_at columns_before
returns c =
    let b = c.args.bytes.now in
    let t = c.args.t in
    let value : c.sum.result ≡ columns_before b t = sum_by_from_yields_List (box_width b) (range_with_len 0 t) c.map.result _ c.sum.ensures.ran (YieldsList-from_map _ (box_width b) (YieldsList-at c.map.ensures.source (YieldsList-from_range 0 t t refl (omega arith))) c.map.ensures.closure (λ x r q k. search rules)) in
    record { value = value; bound = omega (arith, columns_at_most b c.args.t (λ i. omega (arith, c.type_inv.bytes (template_start b i + 2)))) }
