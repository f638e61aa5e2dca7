use Rattle.std.proofs.Common.{pos, arith, rules}
use Rattle.printed.specs.Values.{best_with_level}
use Rattle.printed.proofs.Choosing.{made_each}
use Rattle.printed.proofs.Entries.{is_table}
use Rattle.printed.proofs.values.Level.lay.Goals as goal

pub returns : goal.returns
returns c =
    let self = c.args.self.now in
    let f = best_with_level self.before.now self.weight self.count self.room in
    let made = c.from_fn.ensures.items in
    is_table f c.from_fn.result made.long
    (λ k h. made_each _ _ f (λ i y q called. search rules) c.from_fn.result 0 37 made.each k (omega arith) (omega arith) (pos 0))
