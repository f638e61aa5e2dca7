-- Laws of sums, counts and greatest values. Assumes nothing.
use Rattle.std.proofs.Common.{◌≡◌, ℕ, zero, suc, ◌+◌, ◌*◌, ◌<◌, ◌≤◌, cond, ℤ, pos, ◌+ℤ◌, ◌*ℤ◌, neg_ℤ, ◌≤ℤ◌, sym, refl, ap, ◌∙◌, subst, ⊎_elim, add-one, arith}
use lib.IntN.{*ℤ_comm, *ℤ-zero, suc_ℤ-*ℤ}
use lib.Signed.{lt_z}
use Rattle.std.proofs.lemmas.Int.{ints, by_lt_z}
use Rattle.std.proofs.lemmas.Bool.{cases_lt}
use Rattle.std.specs.Int.{int_max}
use Rattle.matching.specs.Counts.{sum, sum_signed, greatest, lowest, IsGreatest, IsLowest}

-- sums of equal values are equal
pub sum_same : (n : ℕ) (f g : ℕ → ℕ) → ((i : ℕ) → i < n → f i ≡ g i) → sum n f ≡ sum n g
unfolding sum
sum_same zero f g e = refl
sum_same (suc n) f g e =
    let a = sum_same n f g (λ i h. e i (omega arith)) in
    let b = e n (omega arith) in
    λ k. a k + b k

pub sum_signed_same : (n : ℕ) (f g : ℕ → ℤ) → ((i : ℕ) → i < n → f i ≡ g i) → sum_signed n f ≡ sum_signed n g
unfolding sum_signed
sum_signed_same zero f g e = refl
sum_signed_same (suc n) f g e =
    let a = sum_signed_same n f g (λ i h. e i (omega arith)) in
    let b = e n (omega arith) in
    λ k. a k +ℤ b k

pub sum_le : (n : ℕ) (f g : ℕ → ℕ) → ((i : ℕ) → i < n → f i ≤ g i) → sum n f ≤ sum n g
unfolding sum
sum_le zero f g e = omega arith
sum_le (suc n) f g e = omega (arith, sum_le n f g (λ i h. e i (omega arith)), e n (omega arith))

pub sum_signed_le : (n : ℕ) (f g : ℕ → ℤ) → ((i : ℕ) → i < n → f i ≤ℤ g i) → sum_signed n f ≤ℤ sum_signed n g
unfolding sum_signed
sum_signed_le zero f g e = omega (arith, ints)
sum_signed_le (suc n) f g e = omega (arith, ints, sum_signed_le n f g (λ i h. e i (omega arith)), e n (omega arith))

pub sum_add : (n : ℕ) (f g : ℕ → ℕ) → sum n (λ i. f i + g i) ≡ sum n f + sum n g
unfolding sum
sum_add zero f g = refl
sum_add (suc n) f g = omega (arith, sum_add n f g)

pub sum_signed_add : (n : ℕ) (f g : ℕ → ℤ) → sum_signed n (λ i. f i +ℤ g i) ≡ sum_signed n f +ℤ sum_signed n g
unfolding sum_signed
sum_signed_add zero f g = refl
sum_signed_add (suc n) f g = omega (arith, ints, sum_signed_add n f g)

pub sum_zero : (n : ℕ) → sum n (λ _. 0) ≡ 0
unfolding sum
sum_zero zero = refl
sum_zero (suc n) = omega (arith, sum_zero n)

pub sum_signed_zero : (n : ℕ) → sum_signed n (λ _. pos 0) ≡ pos 0
unfolding sum_signed
sum_signed_zero zero = refl
sum_signed_zero (suc n) = omega (arith, ints, sum_signed_zero n)

-- by rows and then columns, or by columns and then rows
pub sum_swap : (m n : ℕ) (f : ℕ → ℕ → ℕ) → sum m (λ i. sum n (f i)) ≡ sum n (λ j. sum m (λ i. f i j))
unfolding sum
sum_swap zero n f = sym (sum_zero n)
sum_swap (suc m) n f =
    ap (λ q. q + sum n (f m)) (sum_swap m n f) ∙ sym (sum_add n (λ j. sum m (λ i. f i j)) (f m))

pub sum_signed_swap : (m n : ℕ) (f : ℕ → ℕ → ℤ) → sum_signed m (λ i. sum_signed n (f i)) ≡ sum_signed n (λ j. sum_signed m (λ i. f i j))
unfolding sum_signed
sum_signed_swap zero n f = sym (sum_signed_zero n)
sum_signed_swap (suc m) n f =
    ap (λ q. q +ℤ sum_signed n (f m)) (sum_signed_swap m n f) ∙ sym (sum_signed_add n (λ j. sum_signed m (λ i. f i j)) (f m))

-- the first a of the numbers, and those after them
pub sum_split : (a n : ℕ) (f : ℕ → ℕ) → sum (n + a) f ≡ sum a f + sum n (λ i. f (i + a))
unfolding sum
sum_split a zero f =
    let e : 0 + a ≡ a = omega arith in
    omega (arith, ap (λ q. sum q f) e)
sum_split a (suc n) f =
    let e : suc n + a ≡ suc (n + a) = omega arith in
    omega (arith, ap (λ q. sum q f) e, sum_split a n f)

-- a weight times a sum
pub times_suc : (g : ℤ) (n : ℕ) → g *ℤ pos (suc n) ≡ g *ℤ pos n +ℤ g
times_suc g n = *ℤ_comm g (pos (suc n)) ∙ suc_ℤ-*ℤ (pos n) g ∙ ap (λ q. q +ℤ g) (*ℤ_comm (pos n) g)

pub times_add : (g : ℤ) (m n : ℕ) → g *ℤ pos (n + m) ≡ g *ℤ pos m +ℤ g *ℤ pos n
times_add g m zero =
    let e : 0 + m ≡ m = omega arith in
    omega (arith, ints, *ℤ-zero g, ap (λ q. g *ℤ pos q) e)
times_add g m (suc n) =
    ap (λ q. g *ℤ pos q) (omega arith) ∙ times_suc g (n + m) ∙ omega (arith, ints, times_add g m n, times_suc g n)

pub times_sum : (g : ℤ) (n : ℕ) (f : ℕ → ℕ) → g *ℤ pos (sum n f) ≡ sum_signed n (λ i. g *ℤ pos (f i))
unfolding sum sum_signed
times_sum g zero f = *ℤ-zero g
times_sum g (suc n) f = times_add g (f n) (sum n f) ∙ omega (arith, ints, times_sum g n f)

-- a weight of at most b either way, times n
pub times_within : (g : ℤ) (b n : ℕ) → neg_ℤ (pos b) ≤ℤ g → g ≤ℤ pos b → (neg_ℤ (pos (b * n)) ≤ℤ (g *ℤ pos n)) × ((g *ℤ pos n) ≤ℤ pos (b * n))
times_within g b zero low high = (omega (arith, ints, *ℤ-zero g), omega (arith, ints, *ℤ-zero g))
times_within g b (suc n) low high =
    let r = times_within g b n low high in
    let p = times_suc g n in
    (omega (arith, ints, r.0, p), omega (arith, ints, r.1, p))

-- the greatest of one more
module _ (f : ℕ → ℤ) (a n : ℕ) (v : ℤ) (before : IsGreatest f a n v) where
  under : (w : ℤ) → v ≤ℤ w → f (a + suc n) ≤ℤ w → (i : ℕ) → i ≤ suc n → f (a + i) ≤ℤ w
  under w p q i h = ⊎_elim
      (λ lt. omega (arith, ints, before.none_above i (omega arith)))
      (λ le. let e : i ≡ suc n = omega arith in omega (arith, ints, ap (λ k. f (a + k)) e))
      (cases_lt i (suc n))

  greatest_more : IsGreatest f a (suc n) (int_max (f (a + suc n)) v)
  greatest_more = by_lt_z v (f (a + suc n))
      (λ h.
      let top : f (a + suc n) ≡ int_max (f (a + suc n)) v = grind (arith, ints) in
      record { at = suc n; within = omega arith; reached = top; none_above = λ i k. omega (arith, ints, top, under (f (a + suc n)) (omega (arith, ints)) (omega (arith, ints)) i k) })
      (λ h.
      let top : v ≡ int_max (f (a + suc n)) v = grind (arith, ints) in
      record { at = before.at; within = omega (arith, before.within); reached = before.reached ∙ top; none_above = λ i k. omega (arith, ints, top, under v (omega (arith, ints)) h i k) })

-- the greatest is what it is called
pub greatest_is : (f : ℕ → ℤ) (a n : ℕ) → IsGreatest f a n (greatest f a n)
unfolding greatest
greatest_is f a zero = record {
  at = 0;
  within = omega arith;
  reached = ap f (omega arith);
  none_above = λ i h. let e : a + i ≡ a = omega arith in omega (arith, ints, ap f e);
}
greatest_is f a (suc n) = greatest_more f a n (greatest f a n) (greatest_is f a n)

-- the lowest of one more
module _ (f : ℕ → ℤ) (n b : ℕ) (before : IsLowest f n b) where
  lowest_more : IsLowest f (suc n) (cond (lt_z (f b) (f (suc n))) (suc n) b)
  lowest_more = by_lt_z (f b) (f (suc n))
      (λ h.
      let top : suc n ≡ cond (lt_z (f b) (f (suc n))) (suc n) b = grind (arith, ints) in
      subst (IsLowest f (suc n)) top (record {
        within = omega arith;
        none_above = λ k p. ⊎_elim
            (λ lt. omega (arith, ints, before.none_above k (omega arith)))
            (λ le. let e : k ≡ suc n = omega arith in omega (arith, ints, ap f e))
            (cases_lt k (suc n));
        first = λ k p. omega (arith, ints, before.none_above k (omega arith));
      }))
      (λ h.
      let top : b ≡ cond (lt_z (f b) (f (suc n))) (suc n) b = grind (arith, ints) in
      subst (IsLowest f (suc n)) top (record {
        within = omega (arith, before.within);
        none_above = λ k p. ⊎_elim
            (λ lt. before.none_above k (omega arith))
            (λ le. let e : k ≡ suc n = omega arith in omega (arith, ints, ap f e))
            (cases_lt k (suc n));
        first = before.first;
      }))

  -- and its value is the greatest of one more
  lowest_value : int_max (f (0 + suc n)) (f b) ≡ f (cond (lt_z (f b) (f (suc n))) (suc n) b)
  lowest_value =
      let here : f (0 + suc n) ≡ f (suc n) = ap f (omega arith) in
      by_lt_z (f b) (f (suc n))
      (λ h.
      let top : suc n ≡ cond (lt_z (f b) (f (suc n))) (suc n) b = grind (arith, ints) in
      let most : int_max (f (0 + suc n)) (f b) ≡ f (suc n) = grind (arith, ints) in
      most ∙ ap f top)
      (λ h.
      let top : b ≡ cond (lt_z (f b) (f (suc n))) (suc n) b = grind (arith, ints) in
      let most : int_max (f (0 + suc n)) (f b) ≡ f b = grind (arith, ints) in
      most ∙ ap f top)

-- the lowest is what it is called
pub lowest_is : (f : ℕ → ℤ) (n : ℕ) → IsLowest f n (lowest f n)
unfolding lowest
lowest_is f zero = record {
  within = omega arith;
  none_above = λ k h. let e : k ≡ 0 = omega arith in omega (arith, ints, ap f e);
  first = λ k h. absurd (omega arith);
}
lowest_is f (suc n) = lowest_more f n (lowest f n) (lowest_is f n)

-- the greatest is the value at the lowest
pub greatest_at_lowest : (f : ℕ → ℤ) (n : ℕ) → greatest f 0 n ≡ f (lowest f n)
unfolding greatest lowest
greatest_at_lowest f zero = refl
greatest_at_lowest f (suc n) =
    ap (int_max (f (0 + suc n))) (greatest_at_lowest f n) ∙ lowest_value f n (lowest f n) (lowest_is f n)

-- one number more
pub sum_more : (n : ℕ) (f : ℕ → ℕ) → sum (n + 1) f ≡ sum n f + f n
unfolding sum
sum_more n f = rw add-one refl
