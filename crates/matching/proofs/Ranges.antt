-- How large weighted counts can grow. Assumes nothing.
use Rattle.std.proofs.Common.{◌≡◌, ℕ, zero, suc, ◌+◌, ◌*◌, ◌<◌, ◌≤◌, ℤ, pos, ◌+ℤ◌, neg_ℤ, ◌≤ℤ◌, mul-add, arith}
use Rattle.std.proofs.lemmas.Int.{ints}
use Rattle.matching.specs.Counts.{sum, sum_signed}
use Rattle.matching.specs.Column.{gain}
use Rattle.matching.proofs.Sums.{times_within}

-- z is at most b, either way
abbrev pub Within : ℕ → ℤ → Type 0
Within b z = (neg_ℤ (pos b) ≤ℤ z) × (z ≤ℤ pos b)

pub within_more : (a b : ℕ) (z : ℤ) → a ≤ b → Within a z → Within b z
within_more a b z h w = (omega (arith, ints, w.0), omega (arith, ints, w.1))

pub within_add : (a b : ℕ) (y z : ℤ) → Within a y → Within b z → Within (a + b) (y +ℤ z)
within_add a b y z v w = (omega (arith, ints, v.0, w.0), omega (arith, ints, v.1, w.1))

-- weights of at most b, times counts
pub gain_within : (γ : ℕ → ℤ) (b levels : ℕ) (k : ℕ → ℕ) → ((l : ℕ) → l < levels → Within b (γ l)) → Within (b * sum levels k) (gain γ levels k)
unfolding sum sum_signed
gain_within γ b zero k h = (omega (arith, ints), omega (arith, ints))
gain_within γ b (suc l) k h =
    let rest = gain_within γ b l k (λ i p. h i (omega arith)) in
    let here = times_within (γ l) b (k l) (h l (omega arith)).0 (h l (omega arith)).1 in
    within_more (b * sum l k + b * k l) (b * (sum l k + k l)) _ (omega (arith, mul-add b (sum l k) (k l))) (within_add (b * sum l k) (b * k l) _ _ rest here)

-- n values of at most b
pub sum_within : (n b : ℕ) (f : ℕ → ℤ) → ((i : ℕ) → i < n → Within b (f i)) → Within (n * b) (sum_signed n f)
unfolding sum_signed
sum_within zero b f h = (omega (arith, ints), omega (arith, ints))
sum_within (suc n) b f h =
    within_more (n * b + b) (suc n * b) _ (omega arith) (within_add (n * b) b _ _ (sum_within n b f (λ i p. h i (omega arith))) (h n (omega arith)))

pub sum_most : (n b : ℕ) (f : ℕ → ℕ) → ((i : ℕ) → i < n → f i ≤ b) → sum n f ≤ n * b
unfolding sum
sum_most zero b f h = omega arith
sum_most (suc n) b f h =
    let e : suc n * b ≡ n * b + b = omega arith in
    omega (arith, sum_most n b f (λ i p. h i (omega arith)), h n (omega arith))
