-- What orders and `&` tell of bits. Assumes nothing.
use Rattle.std.proofs.Common.{◌≡◌, ℕ, zero, suc, ◌+◌, ◌*◌, ◌/◌, ◌%◌, ◌^◌, ◌<◌, ◌≤◌, true, eqb, ltb, Decides, sym, ap, ◌∙◌, ⊎_elim, arith, pow_mono}
use native.Mathlib.Nat.{div-eq_of_lt, div-eq_of_lt-le, two-pow-succ}
use lib.Bits.{bit_and}
use Rattle.std.proofs.lemmas.Nat.{pow_pos, and_shr, and_mod, and_le_l, and_le_r, leading_top, mod_below}
use Rattle.std.proofs.lemmas.Bool.{cases_lt, cases_eq, lt-ltb, ltb-true, eqb-true, eq-eqb}
use Rattle.octets.specs.Bits.{Bit}

below_power : (n : ℕ) → n < 2 ^ n
below_power zero = omega arith
below_power (suc n) = omega (arith, below_power n, two-pow-succ n)

-- the highest bit of a number that is not 0
top_bit : (n : ℕ) → 0 < n → (j : ℕ) × Bit n j × (n < 2 ^ suc j)
top_bit n h =
    let t = leading_top n n h (below_power n) in
    let j = t.0 in
    let low : 1 * 2 ^ j ≤ n = omega (arith, t.2) in
    let high : n < (1 + 1) * 2 ^ j = omega (arith, t.3, two-pow-succ j) in
    (j, ap (λ q. q % 2) (div-eq_of_lt-le (2 ^ j) low high), t.3)

-- a number is below 2 ^ h exactly if it has no bit at h or above
pub bits_below : (n h : ℕ) → Decides (ltb n (2 ^ h)) ((i : ℕ) → Bit n i → i < h)
bits_below n h = (
  λ e i b. ⊎_elim (λ lt. lt) (λ le. absurd (none e i b le)) (cases_lt i h),
  λ f. ⊎_elim (λ lt. lt-ltb n (2 ^ h) lt) (λ le. absurd (over f le)) (cases_lt n (2 ^ h)),
)
  where
    none : ltb n (2 ^ h) ≡ true → (i : ℕ) → Bit n i → h ≤ i → ⊥
    none e i b le =
        let small : n < 2 ^ i = omega (arith, ltb-true n (2 ^ h) e, pow_mono le) in
        let z : n / 2 ^ i % 2 ≡ 0 = ap (λ q. q % 2) (div-eq_of_lt small) in
        omega arith

    over : ((i : ℕ) → Bit n i → i < h) → 2 ^ h ≤ n → ⊥
    over f le =
        let t = top_bit n (omega (arith, pow_pos h)) in
        omega (arith, t.2, pow_mono (f t.0 t.1))

-- bit i of a number `a & b`
pub and_bit : (a b i : ℕ) → bit_and a b / 2 ^ i % 2 ≡ bit_and (a / 2 ^ i % 2) (b / 2 ^ i % 2)
and_bit a b i = ap (λ q. q % 2) (and_shr a b i) ∙ and_mod (a / 2 ^ i) (b / 2 ^ i) 1

-- two numbers have no bit in common exactly if `a & b` is 0
pub bits_apart : (a b : ℕ) → Decides (eqb (bit_and a b) 0) ((i : ℕ) → Bit a i → Bit b i → ⊥)
bits_apart a b = (
  λ e i p q. absurd (both (eqb-true _ _ e) i p q),
  λ f. ⊎_elim (λ z. eq-eqb _ _ z) (λ ne. absurd (some f ne)) (cases_eq (bit_and a b) 0),
)
  where
    both : bit_and a b ≡ 0 → (i : ℕ) → Bit a i → Bit b i → ⊥
    both e i p q =
        let one : bit_and a b / 2 ^ i % 2 ≡ 1 = and_bit a b i ∙ (λ k. bit_and (p k) (q k)) in
        let z : 0 / 2 ^ i ≡ 0 = div-eq_of_lt (pow_pos i) in
        let none : bit_and a b / 2 ^ i % 2 ≡ 0 = ap (λ n. n / 2 ^ i % 2) e ∙ ap (λ q. q % 2) z in
        omega arith

    some : ((i : ℕ) → Bit a i → Bit b i → ⊥) → (bit_and a b ≡ 0 → ⊥) → ⊥
    some f ne =
        let nz : 0 < bit_and a b = omega arith in
        let t = top_bit (bit_and a b) nz in
        let j = t.0 in
        let one : bit_and (a / 2 ^ j % 2) (b / 2 ^ j % 2) ≡ 1 = sym (and_bit a b j) ∙ t.1 in
        let la = and_le_l (a / 2 ^ j % 2) (b / 2 ^ j % 2) in
        let lb = and_le_r (a / 2 ^ j % 2) (b / 2 ^ j % 2) in
        let p : Bit a j = omega (arith, mod_below (a / 2 ^ j) 2 (omega arith)) in
        let q : Bit b j = omega (arith, mod_below (b / 2 ^ j) 2 (omega arith)) in
        f j p q
