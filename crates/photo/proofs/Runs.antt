-- Runs of bytes of one class, and the number that digits write. Assumes nothing.
use Rattle.std.proofs.Common.{◌≡◌, ℕ, ◌+◌, ◌-◌, ◌*◌, ◌^◌, ◌<◌, ◌≤◌, Bool, true, leb, List, [], ◌∷◌, map, length, get_or, take, drop, sym, ap, ◌∙◌, subst, ⊎_elim, one-add, arith}
use native.Mathlib.Nat.{pow-le-pow_right}
use Rattle.std.proofs.ByRecursion.{All-map, All-take, All-weaker}
use Rattle.std.proofs.lemmas.Int.Digits.{number_more, number_lt}
use Rattle.std.proofs.lemmas.List.{get_or-map, take-map, length-map, length-take}
use Rattle.std.proofs.lemmas.Bool.{and_parts, leb-true, cases_Bool, cond-true, cond-false}
use Rattle.std.proofs.lemmas.List.Folds.{length-prefix_len}
use Rattle.std.specs.Int.Digits.{number_from_digits, AllBelowBase}
use Rattle.std.specs.List.{between, prefix_len, take_while, AllByRecursion}
use Rattle.photo.specs.Header.{digit, run_end, decimal}

-- how many bytes of the class stand from i on, and where they end
pub run_count : (class : ℕ → Bool) (photo : List ℕ) (i : ℕ) → i + length (take_while class (drop i photo)) ≡ run_end class photo i
unfolding run_end
run_count class photo i = ap (λ n. i + n) (length-prefix_len class (drop i photo))

pub decimal_more : (digits : List ℕ) (i : ℕ) → i < length digits → decimal (take (i + 1) digits) ≡ decimal (take i digits) * 10 + (get_or digits i 0 - 48)
unfolding decimal
decimal_more digits i h =
    let few : i < length (map (λ c. c - 48) digits) = omega (arith, length-map digits (λ (c : ℕ). c - 48)) in
    ap (number_from_digits 10) (sym (take-map (λ (c : ℕ). c - 48) (i + 1) digits))
    ∙ number_more 10 (map (λ c. c - 48) digits) i few
    ∙ (λ k. number_from_digits 10 (take-map (λ (c : ℕ). c - 48) i digits k) * 10 + get_or-map (λ (c : ℕ). c - 48) digits i 0 0 h k)

-- at most five digits write a number below 100,000, and so does a front of them
pub decimal_small : (digits : List ℕ) (i : ℕ) → length digits ≤ 5 → AllByRecursion (λ c. digit c ≡ true) digits → decimal (take i digits) < 100000
unfolding decimal
decimal_small digits i few all =
    let ds = map (λ c. c - 48) (take i digits) in
    let under : AllBelowBase 10 ds = All-map (λ d. d < 10) (λ c. c - 48) (take i digits) (All-weaker (λ c. digit c ≡ true) (λ c. c - 48 < 10) low (take i digits) (All-take (λ c. digit c ≡ true) i digits all)) in
    let short : length ds ≤ 5 = omega (arith, length-map (take i digits) (λ (c : ℕ). c - 48), length-take i digits) in
    let top : 10 ^ length ds ≤ 10 ^ 5 = pow-le-pow_right (omega arith) short in
    omega (arith, number_lt 10 ds under)
  where
    low : (c : ℕ) → digit c ≡ true → c - 48 < 10
    low c e = omega (arith, leb-true c 57 (and_parts (leb 48 c) (leb c 57) e).1)

leading_all : (p : ℕ → Bool) (xs : List ℕ) → AllByRecursion (λ c. p c ≡ true) (take (prefix_len p xs) xs)
leading_all p [] = tt
leading_all p (x ∷ xs) =
    ⊎_elim
    (λ e. subst (λ n. AllByRecursion (λ c. p c ≡ true) (take n (x ∷ xs))) (sym (cond-true (p x) (1 + prefix_len p xs) 0 e ∙ one-add (prefix_len p xs))) (e, leading_all p xs))
    (λ e. subst (λ n. AllByRecursion (λ c. p c ≡ true) (take n (x ∷ xs))) (sym (cond-false (p x) (1 + prefix_len p xs) 0 e)) tt)
    (cases_Bool (p x))

-- a run has only bytes of its class
pub run_all : (class : ℕ → Bool) (photo : List ℕ) (i : ℕ) → AllByRecursion (λ c. class c ≡ true) (between i (run_end class photo i) photo)
unfolding run_end
run_all class photo i =
    let n = prefix_len class (drop i photo) in
    let same : i + n - i ≡ n = omega arith in
    subst (λ k. AllByRecursion (λ c. class c ≡ true) (take k (drop i photo))) (sym same) (leading_all class (drop i photo))
