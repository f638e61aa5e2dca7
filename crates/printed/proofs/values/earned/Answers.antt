use Rattle.std.proofs.Common.{◌≡◌, pos, ◌*ℤ◌, arith, w16, w64, SFits, to_z, of_z}
use Rattle.std.proofs.lemmas.Int.{ints}
use Rattle.matching.proofs.Sums.{times_within}
use Rattle.printed.proofs.values.earned.Goals as goal

pub returns-clause-range : goal.returns-clause-range
returns-clause-range c =
    let w = c.args.weight in
    let n = c.args.k in
    let fits : SFits w16 w = c.ranges.weight in
    let r = times_within w 32768 n (omega (arith, ints)) (omega (arith, ints)) in
    let a : to_z w64 (of_z w64 c.from.result) ≡ w = omega (arith, ints) in
    let b : to_z w64 n ≡ pos n = omega (arith, ints) in
    let p : to_z w64 (of_z w64 c.from.result) *ℤ to_z w64 n ≡ w *ℤ pos n = λ i. a i *ℤ b i in
    let v : to_z w64 (of_z w64 (to_z w64 (of_z w64 c.from.result) *ℤ to_z w64 n)) ≡ w *ℤ pos n = omega (arith, ints) in
    (omega (arith, ints), omega (arith, ints))
