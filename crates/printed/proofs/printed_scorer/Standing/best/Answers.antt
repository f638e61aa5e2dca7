use Rattle.std.proofs.Common.{◌≡◌, Some, sym, ap, ◌∙◌, arith, rules}
use lib.Signed.{lt_z}
use Rattle.std.proofs.lemmas.Iterator.{YieldsList-from_map, YieldsList-from_range}
use Rattle.matching.specs.Counts.{lowest}
use Rattle.matching.specs.Printed.{score_at}
use Rattle.matching.proofs.Lawful.{exact_at_lowest}
use Rattle.matching.proofs.Sums.{lowest_is}
use Rattle.printed.specs.Gathered.{image_of}
use Rattle.printed.proofs.Choosing.{row_of, first_by_key, flipped, best_of_rows}
use Rattle.printed.proofs.printed_scorer.Standing.best.Goals as goal

pub returns : goal.returns
returns c =
    let node = c.args.self.now.node in
    let face = node.line.now.face.bytes.now in
    let image = image_of node.line.now.photo in
    let f = score_at face image node.x node.t in
    let picked = first_by_key _ _ (λ b. record { 0 = b.score }) (λ a b. lt_z a.score b.score) (λ x k q h. search rules) (λ X a b x y. flipped a.score b.score x y) _ c.min_by_key.result c.min_by_key.ensures.ran
    (YieldsList-from_map _ (row_of f) (YieldsList-from_range 0 5 5 c.map.ensures.source (omega arith)) c.map.ensures.closure (λ x r q k. search rules)) in
    let some : Some c.unwrap.result ≡ Some (row_of f (lowest f 4)) = sym c.unwrap.ensures ∙ picked ∙ best_of_rows f 4 in
    let best : c.unwrap.result ≡ row_of f (lowest f 4) = cc in
    let exact = exact_at_lowest face image node.x node.t in
    record { value = best ∙ (λ i. record { score = sym exact i; row = lowest f 4 }); within = omega (arith, (lowest_is f 4).within, ap (λ b. b.row) best) }
