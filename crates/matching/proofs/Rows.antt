-- Where a box column lies over an image column: its levels share no row, so what lies over black is a choice. Assumes nothing.
use Rattle.std.proofs.Common.{◌≡◌, ℕ, zero, suc, ◌+◌, ◌-◌, ◌<◌, ◌≤◌, Bool, true, false, ◌&&◌, refl, ap, ◌∙◌, arith}
use Rattle.matching.specs.Counts.{sum, count_of, one_if}
use Rattle.matching.specs.Column.{Choice}
use Rattle.matching.proofs.Sums.{sum_same, sum_le, sum_add, sum_swap, sum_split, sum_zero}

one_if_le : (b : Bool) → one_if b ≤ 1
one_if_le true = omega arith
one_if_le false = omega arith

pub count_le : (n : ℕ) (p : ℕ → Bool) → count_of n p ≤ n
unfolding sum
count_le zero p = omega arith
count_le (suc n) p = omega (arith, count_le n p, one_if_le (p n))

and_true : (p : Bool) → (p && true) ≡ p
and_true true = refl
and_true false = refl

and_false : (p : Bool) → (p && false) ≡ false
and_false true = refl
and_false false = refl

one_if_and : (p b : Bool) → one_if (p && b) ≤ one_if p
one_if_and true b = one_if_le b
one_if_and false b = omega arith

-- no two of the levels pass
abbrev pub Apart : ℕ → (ℕ → Bool) → Type 0
Apart levels p = (k l : ℕ) → k < l → l < levels → p k ≡ true → p l ≡ true → ⊥

none_of : (n : ℕ) (p : ℕ → Bool) → ((k : ℕ) → k < n → p k ≡ true → ⊥) → count_of n p ≡ 0
none_of n p none = sum_same n (λ l. one_if (p l)) (λ _. 0) (λ l h. no (p l) (none l h)) ∙ sum_zero n
  where
    no : (b : Bool) → (b ≡ true → ⊥) → one_if b ≡ 0
    no true f = absurd (f refl)
    no false f = refl

at_most_one : (n : ℕ) (p : ℕ → Bool) → Apart n p → count_of n p ≤ 1
unfolding sum
at_most_one zero p apart = omega arith
at_most_one (suc n) p apart = last (p n) refl (at_most_one n p (λ k l h i. apart k l h (omega arith)))
  where
    last : (b : Bool) → p n ≡ b → count_of n p ≤ 1 → count_of n p + one_if (p n) ≤ 1
    last true e h = omega (arith, none_of n p (λ k i y. apart k n i (omega arith) y e), one_if_le (p n))
    last false e h = omega (arith, ap one_if e)

-- one row: the levels' pixels there, and those over black
module _ (levels : ℕ) (p : ℕ → Bool) (apart : Apart levels p) where
  row_over : (b : Bool) → count_of levels (λ l. p l && b) ≤ one_if b
  row_over true = omega (arith, at_most_one levels p apart, sum_same levels (λ l. one_if (p l && true)) (λ l. one_if (p l)) (λ l h. ap one_if (and_true (p l))))
  row_over false = omega (arith, sum_same levels (λ l. one_if (p l && false)) (λ _. 0) (λ l h. ap one_if (and_false (p l))), sum_zero levels)

  row_under : (b : Bool) → one_if b + count_of levels p ≤ count_of levels (λ l. p l && b) + 1
  row_under true = omega (arith, sum_same levels (λ l. one_if (p l && true)) (λ l. one_if (p l)) (λ l h. ap one_if (and_true (p l))))
  row_under false = omega (arith, at_most_one levels p apart)

sum_ones : (n : ℕ) → sum n (λ _. 1) ≡ n
unfolding sum
sum_ones zero = refl
sum_ones (suc n) = omega (arith, sum_ones n)

-- a box column of some levels, whose row 0 lies on row s of an image column of four rows more
module _ (levels height : ℕ) (p : ℕ → ℕ → Bool) (apart : (i : ℕ) → i < height → Apart levels (λ l. p l i)) where
  abbrev count_in : ℕ → ℕ
  count_in l = count_of height (p l)

  -- all levels have no more pixels than there are rows
  pub pixels_few : sum levels count_in ≤ height
  pixels_few =
      omega (
        arith,
        sum_swap levels height (λ l i. one_if (p l i)),
        sum_ones height,
        sum_le height (λ i. count_of levels (λ l. p l i)) (λ _. 1) (λ i h. at_most_one levels (λ l. p l i) (apart i h)),
      )

  module _ (b : ℕ → Bool) (s : ℕ) (high : s ≤ 4) where
    abbrev over : ℕ → ℕ
    over l = count_of height (λ i. p l i && b (i + s))

    by_rows : sum levels over ≡ sum height (λ i. count_of levels (λ l. p l i && b (i + s)))
    by_rows = sum_swap levels height (λ l i. one_if (p l i && b (i + s)))

    abbrev middle : ℕ
    middle = count_of height (λ i. b (i + s))

    -- the rows above the box, those of the box and those below it
    black_parts : (middle ≤ count_of (height + 4) b) × (count_of (height + 4) b ≤ middle + 4)
    black_parts =
        let below : ℕ = 4 - s in
        let e : height + 4 ≡ below + (height + s) = omega arith in
        let one = sum_split (height + s) below (λ y. one_if (b y)) in
        let two = sum_split s height (λ y. one_if (b y)) in
        let top = count_le s b in
        let bottom = count_le below (λ i. b (i + (height + s))) in
        let whole = ap (λ q. count_of q b) e in
        (omega arith, omega arith)

    over_few : sum levels over ≤ middle
    over_few =
        omega (arith, by_rows, sum_le height (λ i. count_of levels (λ l. p l i && b (i + s))) (λ i. one_if (b (i + s))) (λ i h. row_over levels (λ l. p l i) (apart i h) (b (i + s))))

    over_many : middle + sum levels count_in ≤ sum levels over + height
    over_many =
        let n = sum_swap levels height (λ l i. one_if (p l i)) in
        let left = sum_add height (λ i. one_if (b (i + s))) (λ i. count_of levels (λ l. p l i)) in
        let right = sum_add height (λ i. count_of levels (λ l. p l i && b (i + s))) (λ _. 1) in
        omega (
          arith,
          n,
          left,
          right,
          by_rows,
          sum_ones height,
          sum_le height (λ i. one_if (b (i + s)) + count_of levels (λ l. p l i)) (λ i. count_of levels (λ l. p l i && b (i + s)) + 1) (λ i h. row_under levels (λ l. p l i) (apart i h) (b (i + s))),
        )

    -- what lies over black is a choice
    pub over_black_choice : Choice count_in levels (height + 4 - sum levels count_in) (count_of (height + 4) b) over
    over_black_choice = record {
      few = λ l h. sum_le height (λ i. one_if (p l i && b (i + s))) (λ i. one_if (p l i)) (λ i _. one_if_and (p l i) (b (i + s)));
      not_over = omega (arith, over_few, black_parts.0);
      not_under = omega (arith, over_many, black_parts.1, pixels_few);
    }
