-- Counting the bits of words is counting pixels. Assumes nothing.
use Rattle.std.proofs.Common.{◌≡◌, ℕ, zero, suc, ◌+◌, ◌-◌, ◌*◌, ◌/◌, ◌%◌, ◌^◌, ◌<◌, ◌≤◌, Bool, true, false, ◌&&◌, eqb, sym, refl, ap, ◌∙◌, subst, ⊎_elim, add-one, arith}
use native.Mathlib.Nat.{two-pow-succ}
use lib.Bits.{bit_and}
use lib.Count.{ones, ones_step, ones_cat}
use lib.Pow.{high, low, field, mod-mod-pow}
use Rattle.std.proofs.lemmas.Nat.{and_le_l, shr-shr, shr_below, mod_below}
use Rattle.std.proofs.lemmas.Bool.{cases_lt}
use Rattle.matching.specs.Counts.{sum, count_of, one_if}
use Rattle.octets.specs.Bits.{has_bit}
use Rattle.octets.proofs.Bits.{and_bit}
use Rattle.matching.specs.Words.{word_of}
use Rattle.matching.proofs.Sums.{sum_same, sum_split}

one_if_below : (b : Bool) → one_if b < 2
one_if_below true = omega arith
one_if_below false = omega arith

-- a bit is 0 or 1
bit_of : (n : ℕ) → n < 2 → one_if (eqb n 1) ≡ n
bit_of zero h = refl
bit_of (suc zero) h = refl
bit_of (suc (suc n)) h = absurd (omega arith)

is_one : (b : Bool) → eqb (one_if b) 1 ≡ b
is_one true = refl
is_one false = refl

one_more : (b : Bool) (n lo : ℕ) → lo < 2 ^ n → one_if b * 2 ^ n + lo < 2 ^ suc n
one_more true n lo h = omega (arith, two-pow-succ n)
one_more false n lo h = omega (arith, two-pow-succ n)

pub word_below : (n : ℕ) (p : ℕ → Bool) → word_of n p < 2 ^ n
unfolding word_of
word_below zero p = omega arith
word_below (suc n) p = one_more (p n) n (word_of n p) (word_below n p)

-- a bit below n does not see what stands at n and above
low_bit : (hi n lo i : ℕ) → lo < 2 ^ n → i < n → (hi * 2 ^ n + lo) / 2 ^ i % 2 ≡ lo / 2 ^ i % 2
low_bit hi n lo i h k =
    let w : ℕ = hi * 2 ^ n + lo in
    let d : ℕ = n - (1 + i) in
    let e : d + (1 + i) ≡ n = omega arith in
    let low_part : w % 2 ^ n ≡ lo = low hi n h in
    let cut : w % 2 ^ (1 + i) ≡ lo % 2 ^ (1 + i) =
    sym (mod-mod-pow w d (1 + i)) ∙ ap (λ q. w % 2 ^ q % 2 ^ (1 + i)) e ∙ ap (λ q. q % 2 ^ (1 + i)) low_part in
    sym (field w 1 i) ∙ ap (λ q. q / 2 ^ i) cut ∙ field lo 1 i

-- bit i of the word is pixel i
pub word_bit : (n : ℕ) (p : ℕ → Bool) (i : ℕ) → i < n → has_bit (word_of n p) i ≡ p i
unfolding word_of
word_bit zero p i h = absurd (omega arith)
word_bit (suc n) p i h =
    ⊎_elim
    (λ lt. ap (λ q. eqb q 1) (low_bit (one_if (p n)) n (word_of n p) i (word_below n p) lt) ∙ word_bit n p i lt)
    (λ le.
    let e : i ≡ n = omega arith in
    let top : (one_if (p n) * 2 ^ n + word_of n p) / 2 ^ n ≡ one_if (p n) = high (one_if (p n)) n (word_below n p) in
    ap (λ q. eqb ((one_if (p n) * 2 ^ n + word_of n p) / 2 ^ q % 2) 1) e ∙ ap (λ q. eqb (q % 2) 1) top ∙ last (p n) ∙ ap p (sym e))
    (cases_lt i n)
  where
    last : (b : Bool) → eqb (one_if b % 2) 1 ≡ b
    last true = refl
    last false = refl

-- as many bits are set as pixels are there
pub word_ones : (n : ℕ) (p : ℕ → Bool) → ones (word_of n p) ≡ count_of n p
unfolding word_of sum ones
word_ones zero p = refl
word_ones (suc n) p = ones_cat n (one_if (p n)) (word_of n p) (word_below n p) ∙ omega (arith, one (p n), word_ones n p)
  where
    one : (b : Bool) → ones (one_if b) ≡ one_if b
    one true = refl
    one false = refl

-- the bits of a number, counted
pub ones_counted : (n v : ℕ) → v < 2 ^ n → ones v ≡ count_of n (has_bit v)
unfolding sum ones
ones_counted zero v h = let z : v ≡ 0 = omega arith in ap ones z
ones_counted (suc n) v h =
    let e : suc n ≡ n + 1 = omega arith in
    let below : v / 2 < 2 ^ n = shr_below v n 1 (subst (λ q. v < 2 ^ q) e h) in
    let first : one_if (has_bit v 0) ≡ v % 2 = ap (λ q. one_if (eqb (q % 2) 1)) (over_one v) ∙ bit_of (v % 2) (mod_below v 2 (omega arith)) in
    let split : count_of (n + 1) (has_bit v) ≡ count_of 1 (has_bit v) + count_of n (λ i. has_bit v (i + 1)) = sum_split 1 n (λ i. one_if (has_bit v i)) in
    let rest : count_of n (λ i. has_bit v (i + 1)) ≡ count_of n (has_bit (v / 2)) =
    sum_same n (λ i. one_if (has_bit v (i + 1))) (λ i. one_if (has_bit (v / 2) i)) (λ i _. ap (λ q. one_if (eqb (q % 2) 1)) (half v i)) in
    omega (arith, ones_step v, ones_counted n (v / 2) below, first, split, rest, ap (λ q. count_of q (has_bit v)) e)
  where
    over_one : (v : ℕ) → v / 2 ^ 0 ≡ v
    over_one v = omega arith

    half : (v i : ℕ) → v / 2 ^ (i + 1) ≡ v / 2 / 2 ^ i
    half v i =
        let e : i + 1 ≡ 1 + i = omega arith in
        ap (λ q. v / 2 ^ q) e ∙ sym (shr-shr v 1 i)

-- bit i of `a & b`
both_have : (a b i : ℕ) → has_bit (bit_and a b) i ≡ (has_bit a i && has_bit b i)
both_have a b i =
    ap (λ q. eqb q 1) (and_bit a b i)
    ∙ both (a / 2 ^ i % 2) (b / 2 ^ i % 2) (mod_below (a / 2 ^ i) 2 (omega arith)) (mod_below (b / 2 ^ i) 2 (omega arith))
  where
    both : (x y : ℕ) → x < 2 → y < 2 → eqb (bit_and x y) 1 ≡ (eqb x 1 && eqb y 1)
    both zero y h k = refl
    both (suc zero) zero h k = refl
    both (suc zero) (suc zero) h k = refl
    both (suc zero) (suc (suc y)) h k = absurd (omega arith)
    both (suc (suc x)) y h k = absurd (omega arith)

-- bit i after a shift to the right
shifted_bit : (v s i : ℕ) → has_bit (v / 2 ^ s) i ≡ has_bit v (i + s)
shifted_bit v s i =
    let e : s + i ≡ i + s = omega arith in
    ap (λ q. eqb (q % 2) 1) (shr-shr v s i) ∙ ap (λ q. eqb (v / 2 ^ q % 2) 1) e

-- a column of a template over a column of an image, s rows down: as many bits are in both as pixels lie over black
pub matched : (w height s rows : ℕ) (b : ℕ → Bool) → w < 2 ^ height → height + s ≤ rows → ones (bit_and w (word_of rows b / 2 ^ s)) ≡ count_of height (λ i. has_bit w i && b (i + s))
matched w height s rows b h k =
    let v : ℕ = word_of rows b / 2 ^ s in
    let below : bit_and w v < 2 ^ height = omega (arith, and_le_l w v) in
    ones_counted height (bit_and w v) below
    ∙ sum_same height (λ i. one_if (has_bit (bit_and w v) i)) (λ i. one_if (has_bit w i && b (i + s))) (λ i p.
    ap one_if (both_have w v i ∙ ap (λ q. has_bit w i && q) (shifted_bit (word_of rows b) s i ∙ word_bit rows b (i + s) (omega arith))))

-- one row more, as a loop adds it
pub word_more : (n : ℕ) (p : ℕ → Bool) → word_of (n + 1) p ≡ one_if (p n) * 2 ^ n + word_of n p
unfolding word_of
word_more n p = rw add-one refl
