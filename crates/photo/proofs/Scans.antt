-- What each scan of the header says of the bytes, and where the bytes let it succeed. Assumes nothing.
use Rattle.std.proofs.Common.{◌≡◌, ℕ, ◌+◌, ◌-◌, ◌<◌, ◌≤◌, Bool, true, false, ◌&&◌, ltb, leb, List, [], ◌∷◌, ◌++◌, length, get_or, take, drop, Ok, sym, refl, ap, ◌∙◌, subst, one-add, arith}
use Rattle.std.proofs.lemmas.List.{length-append, length-drop, take-append-drop, drop-drop, drop_at, take_at}
use Rattle.std.proofs.lemmas.List.Sums.{prefix_len-le-length}
use Rattle.std.proofs.lemmas.Bool.{and_parts, and_from, lt-ltb, ltb-true, le-leb, leb-true, cond-true, cond-false}
use Rattle.std.proofs.lemmas.Bool.Decides.{nat_tests}
use Rattle.std.specs.List.{between, prefix_len, AllByRecursion}
use Rattle.refusal.specs.First.{ensure, after}
use Rattle.refusal.specs.declared.Refusal.TheVariants.{PhotographHeader}
use Rattle.refusal.proofs.First.{after_ensure, after_met}
use Rattle.photo.specs.declared.scan.Number.{Number}
use Rattle.photo.specs.Header.{white, digit, run_end, decimal, scan_white, scan_number, scan_one_white}

-- the number that the run of digits at i writes
abbrev pub number_at : List ℕ → ℕ → Number
number_at photo i = record { value = decimal (between i (run_end digit photo i) photo); start = i; end = run_end digit photo i }

module _ (photo : List ℕ) (i : ℕ) where
  pub run_within : (class : ℕ → Bool) → i ≤ length photo → (i ≤ run_end class photo i) × (run_end class photo i ≤ length photo)
  unfolding run_end
  run_within class h = (omega arith, omega (arith, prefix_len-le-length class (drop i photo), length-drop i photo))

  pub white_parts : (e : ℕ) → scan_white photo i ≡ Ok e → (e ≡ run_end white photo i) × (i < e)
  white_parts e h =
      let p = after_ensure (ltb i (run_end white photo i)) (PhotographHeader i) (λ _. Ok (run_end white photo i)) e h in
      let same : e ≡ run_end white photo i = cc p.1 in
      (same, omega (arith, ltb-true _ _ p.0))

  pub white_is : i < run_end white photo i → scan_white photo i ≡ Ok (run_end white photo i)
  white_is h = after_met (PhotographHeader i) (λ _. Ok (run_end white photo i)) (lt-ltb _ _ h)

  pub number_parts : (n : Number) → scan_number photo i ≡ Ok n → (n ≡ number_at photo i) × (i < run_end digit photo i) × (run_end digit photo i - i ≤ 5)
  number_parts n h =
      let e = run_end digit photo i in
      let p = after_ensure (ltb i e) (PhotographHeader i) (λ _. after (ensure (leb (e - i) 5) (PhotographHeader (i + 5))) (λ _. Ok (number_at photo i))) n h in
      let q = after_ensure (leb (e - i) 5) (PhotographHeader (i + 5)) (λ _. Ok (number_at photo i)) n p.1 in
      let same : n ≡ number_at photo i = cc q.1 in
      (same, ltb-true i e p.0, leb-true (e - i) 5 q.0)

  pub number_is : i < run_end digit photo i → run_end digit photo i - i ≤ 5 → scan_number photo i ≡ Ok (number_at photo i)
  number_is some few =
      let e = run_end digit photo i in
      after_met (PhotographHeader i) (λ _. after (ensure (leb (e - i) 5) (PhotographHeader (i + 5))) (λ _. Ok (number_at photo i))) (lt-ltb i e some)
      ∙ after_met (PhotographHeader (i + 5)) (λ _. Ok (number_at photo i)) (le-leb (e - i) 5 few)

  pub one_parts : (e : ℕ) → scan_one_white photo i ≡ Ok e → (e ≡ i + 1) × (i < length photo) × (white (get_or photo i 0) ≡ true)
  one_parts e h =
      let p = after_ensure (ltb i (length photo) && white (get_or photo i 0)) (PhotographHeader i) (λ _. Ok (i + 1)) e h in
      let same : e ≡ i + 1 = cc p.1 in
      let both = and_parts (ltb i (length photo)) (white (get_or photo i 0)) p.0 in
      (same, ltb-true i (length photo) both.0, both.1)

  pub one_is : i < length photo → white (get_or photo i 0) ≡ true → scan_one_white photo i ≡ Ok (i + 1)
  one_is h w = after_met (PhotographHeader i) (λ _. Ok (i + 1)) (and_from _ _ (lt-ltb i (length photo) h) w)

  -- a run, and what follows it
  pub run_splits : (class : ℕ → Bool) → i ≤ length photo → drop i photo ≡ between i (run_end class photo i) photo ++ drop (run_end class photo i) photo
  run_splits class h =
      let e = run_end class photo i in
      let back : i + (e - i) ≡ e = omega (arith, run_within class h) in
      sym (take-append-drop (e - i) (drop i photo)) ∙ ap (λ l. between i e photo ++ l) (drop-drop (e - i) i photo ∙ ap (λ k. drop k photo) back)

-- a digit is not white
pub digit_not_white : (c : ℕ) → digit c ≡ true → white c ≡ false
digit_not_white c h = grind (arith, nat_tests)

pub white_not_digit : (c : ℕ) → white c ≡ true → digit c ≡ false
white_not_digit c h = grind (arith, nat_tests)

-- what follows a run begins with a byte of another class
abbrev pub Ends : (ℕ → Bool) → List ℕ → Type 0
Ends class [] = Unit {0}
Ends class (c ∷ cs) = class c ≡ false

leading_is : (p : ℕ → Bool) (run rest : List ℕ) → AllByRecursion (λ c. p c ≡ true) run → prefix_len p rest ≡ 0 → prefix_len p (run ++ rest) ≡ length run
leading_is p [] rest all none = none
leading_is p (x ∷ xs) rest all none =
    cond-true (p x) (1 + prefix_len p (xs ++ rest)) 0 all.0 ∙ ap (λ n. 1 + n) (leading_is p xs rest all.1 none) ∙ one-add (length xs)

ends_none : (class : ℕ → Bool) (rest : List ℕ) → Ends class rest → prefix_len class rest ≡ 0
ends_none class [] e = refl
ends_none class (c ∷ cs) e = cond-false (class c) (1 + prefix_len class cs) 0 e

-- the run that stands after the front
module _ (class : ℕ → Bool) (front run rest : List ℕ) (all : AllByRecursion (λ c. class c ≡ true) run) (ends : Ends class rest) where
  pub run_is : run_end class (front ++ (run ++ rest)) (length front) ≡ length front + length run
  unfolding run_end
  run_is = ap (λ l. length front + prefix_len class l) (drop_at front (run ++ rest) (length front) refl) ∙ ap (λ n. length front + n) (leading_is class run rest all (ends_none class rest ends))

  pub between_is_run : between (length front) (run_end class (front ++ (run ++ rest)) (length front)) (front ++ (run ++ rest)) ≡ run
  between_is_run =
      let size : run_end class (front ++ (run ++ rest)) (length front) - length front ≡ length run = omega (arith, run_is) in
      (λ k. take (size k) (drop_at front (run ++ rest) (length front) refl k)) ∙ take_at run rest (length run) refl

-- the same in bytes that are known to be cut so
pub run_there : (class : ℕ → Bool) (photo front run rest : List ℕ) → photo ≡ front ++ (run ++ rest) → AllByRecursion (λ c. class c ≡ true) run → Ends class rest → (run_end class photo (length front) ≡ length (front ++ run)) × (between (length front) (run_end class photo (length front)) photo ≡ run)
run_there class photo front run rest e all ends =
    subst (λ p. (run_end class p (length front) ≡ length (front ++ run)) × (between (length front) (run_end class p (length front)) p ≡ run)) (sym e)
    (run_is class front run rest all ends ∙ sym (length-append front run), between_is_run class front run rest all ends)

-- what begins with a digit ends a run of white bytes, and the other way round
pub digits_end_white : (xs ys : List ℕ) → 1 ≤ length xs → AllByRecursion (λ c. digit c ≡ true) xs → Ends white (xs ++ ys)
digits_end_white [] ys some all = absurd (omega arith)
digits_end_white (x ∷ xs) ys some all = digit_not_white x all.0

pub white_ends_digits : (xs ys : List ℕ) → 1 ≤ length xs → AllByRecursion (λ c. white c ≡ true) xs → Ends digit (xs ++ ys)
white_ends_digits [] ys some all = absurd (omega arith)
white_ends_digits (x ∷ xs) ys some all = white_not_digit x all.0
