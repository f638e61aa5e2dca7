use Rattle.std.proofs.Common.{◌≡◌, ◌+◌, Some, suc, sym, ◌∙◌, arith, w64, SFits, rules}
use Rattle.std.proofs.lemmas.Int.{to_z-of_z}
use Rattle.std.proofs.lemmas.Iterator.Consumers.{reduce_from_yields_List}
use Rattle.matching.specs.Column.{fewest, spread}
use Rattle.matching.specs.Counts.{greatest}
use Rattle.printed.specs.Values.{with_level}
use Rattle.printed.proofs.Summing.{mapped}
use Rattle.printed.proofs.Choosing.{greater, greatest_over}
use Rattle.printed.proofs.values.Level.best_with.Goals as goal

pub returns : goal.returns
returns c =
    let self = c.args.self.now in
    let f = with_level self.before.now self.weight c.args.black in
    let a = c.saturating_sub-fewest.result in
    let n = c.saturating_sub-spread.result in
    let most : Some c.unwrap.result ≡ Some (greatest f a n) = sym c.unwrap.ensures
    ∙ reduce_from_yields_List greater _ _ c.max.ensures.ran (mapped _ (λ i. f (a + i)) (suc n) c.map.ensures.source (omega arith) c.map.ensures.closure (λ x r q k. search rules))
    ∙ greatest_over f a n in
    let value : c.unwrap.result ≡ greatest f a n = cc in
    let fits : SFits w64 c.unwrap.result = search rules in
    let low : a ≡ fewest self.room c.args.black = c.saturating_sub-fewest.ensures in
    let more : n ≡ spread self.count self.room c.args.black = grind arith in
    to_z-of_z w64 c.unwrap.result fits ∙ value ∙ (λ i. greatest f (low i) (more i))
