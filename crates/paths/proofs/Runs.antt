-- How the length of a run of places with one difference tells whether the places before a place have one. Assumes nothing.
use Rattle.std.proofs.Common.{◌≡◌, ℕ, zero, suc, ◌+◌, ◌-◌, ◌<◌, ◌≤◌, max, leb, List, [], ◌∷◌, length, get_or, ℤ, Decides, fold, sym, refl, ap, ◌∙◌, subst, ⊎_elim, arith}
use Rattle.std.proofs.lemmas.Bool.{leb-true, le-leb, cases_lt, cases_Bool, cond-true, cond-false, cond_both, and_parts, and_from}
use Rattle.std.proofs.lemmas.Bool.Decides.{Decides-int_eq, same_from_decides, not_from_Decides}
use Rattle.std.specs.Ordering.{int_eq}
use Rattle.paths.specs.Increments.{one_difference, run_length, longest}

-- a run has a place or more, and no more than there are
pub run_length_some : (d : ℕ → ℤ) (q : ℕ) → 1 ≤ run_length d q
unfolding run_length
run_length_some d zero = omega arith
run_length_some d (suc q) =
    cond_both (int_eq (d (suc q)) (d q)) (run_length d q + 1) 1 (λ n. 1 ≤ n) (λ e. omega arith) (λ e. omega arith)

pub run_length_few : (d : ℕ → ℤ) (q : ℕ) → run_length d q ≤ suc q
unfolding run_length
run_length_few d zero = omega arith
run_length_few d (suc q) =
    cond_both (int_eq (d (suc q)) (d q)) (run_length d q + 1) 1 (λ n. n ≤ suc (suc q))
    (λ e. omega (arith, run_length_few d q)) (λ e. omega arith)

-- the places of a run have the difference of its last place
run_holds : (d : ℕ → ℤ) (q k : ℕ) → k < run_length d q → d (q - k) ≡ d q
unfolding run_length
run_holds d zero k lt = ap d (omega arith)
run_holds d (suc q) zero lt = ap d (omega arith)
run_holds d (suc q) (suc k) lt = ⊎_elim
    (λ e.
    let long : suc k < run_length d q + 1 = subst (λ n. suc k < n) (cond-true (int_eq (d (suc q)) (d q)) _ 1 e) lt in
    let same : d (suc q) ≡ d q = (Decides-int_eq (d (suc q)) (d q)).0 e in
    ap d (omega arith) ∙ run_holds d q k (omega arith) ∙ sym same)
    (λ e.
    let short : suc k < 1 = subst (λ n. suc k < n) (cond-false (int_eq (d (suc q)) (d q)) _ 1 e) lt in
    absurd (omega arith))
    (cases_Bool (int_eq (d (suc q)) (d q)))

-- the place before a run has another difference
run_ends : (d : ℕ → ℤ) (q : ℕ) → run_length d q ≤ q → d (q - run_length d q) ≡ d q → ⊥
unfolding run_length
run_ends d zero few e = omega arith
run_ends d (suc q) few e = ⊎_elim
    (λ s.
    let long : run_length d (suc q) ≡ run_length d q + 1 = cond-true (int_eq (d (suc q)) (d q)) _ 1 s in
    let same : d (suc q) ≡ d q = (Decides-int_eq (d (suc q)) (d q)).0 s in
    let there : q - run_length d q ≡ suc q - run_length d (suc q) = omega arith in
    run_ends d q (omega arith) (ap d there ∙ e ∙ same))
    (λ s.
    let one : run_length d (suc q) ≡ 1 = cond-false (int_eq (d (suc q)) (d q)) _ 1 s in
    let there : q ≡ suc q - run_length d (suc q) = omega arith in
    not_from_Decides (int_eq (d (suc q)) (d q)) (Decides-int_eq (d (suc q)) (d q)) s (sym (ap d there ∙ e)))
    (cases_Bool (int_eq (d (suc q)) (d q)))

-- the test says whether the n places before place p have one difference
pub one_difference_tells : (d : ℕ → ℤ) (p n : ℕ) → Decides (one_difference d p n) ((k : ℕ) → 1 ≤ k → k ≤ n → d (p - k) ≡ d (p - 1))
unfolding one_difference
one_difference_tells d p zero = (λ e k some few. absurd (omega arith), λ all. refl)
one_difference_tells d p (suc n) =
    let below = one_difference_tells d p n in
    let here = Decides-int_eq (d (p - suc n)) (d (p - 1)) in (
      λ e k some few.
          let both = and_parts (one_difference d p n) (int_eq (d (p - suc n)) (d (p - 1))) e in
          ⊎_elim
          (λ lt. below.0 both.0 k some (omega arith))
          (λ le.
          let last : p - k ≡ p - suc n = omega arith in
          ap d last ∙ here.0 both.1)
          (cases_lt k (suc n)),
      λ all. and_from (one_difference d p n) (int_eq (d (p - suc n)) (d (p - 1)))
          (below.1 (λ k some few. all k some (omega arith))) (here.1 (all (suc n) (omega arith) (omega arith))),
    )

-- the length of the run that ends at place q decides whether the n places up to it have one difference
pub one_difference_runs : (d : ℕ → ℤ) (q n : ℕ) → n ≤ suc q → one_difference d (suc q) n ≡ leb n (run_length d q)
one_difference_runs d q n few =
    same_from_decides (one_difference d (suc q) n) (leb n (run_length d q)) (one_difference_tells d (suc q) n) (
      λ e k some within.
          let long : n ≤ run_length d q = leb-true n (run_length d q) e in
          let there : suc q - k ≡ q - (k - 1) = omega arith in
          ap d there ∙ run_holds d q (k - 1) (omega arith) ∙ ap d (omega arith),
      λ all. ⊎_elim
          (λ lt.
          let there : q - run_length d q ≡ suc q - (run_length d q + 1) = omega arith in
          let same = all (run_length d q + 1) (omega arith) (omega arith) in
          absurd (run_ends d q (omega arith) (ap d there ∙ same ∙ ap d (omega arith))))
          (λ le. le-leb n (run_length d q) le)
          (cases_lt (run_length d q) n),
    )

-- the largest so far grows with each setwidth, and none is more than it in the end
folded_most : (a : ℕ) (ds : List ℕ) → a ≤ fold max a ds
folded_most a [] = omega arith
folded_most a (d ∷ ds) = omega (arith, folded_most (max a d) ds)

le_folded : (a : ℕ) (ds : List ℕ) (t : ℕ) → t < length ds → get_or ds t 0 ≤ fold max a ds
le_folded a [] t known = absurd (omega arith)
le_folded a (d ∷ ds) zero known = omega (arith, folded_most (max a d) ds)
le_folded a (d ∷ ds) (suc t) known = le_folded (max a d) ds t (omega arith)

-- no setwidth is more than the largest
pub le_longest : (ds : List ℕ) (t : ℕ) → t < length ds → get_or ds t 0 ≤ longest ds
le_longest ds t known = le_folded 0 ds t known
