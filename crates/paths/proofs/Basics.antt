-- What a sweep gives each place is its rule; a place rests on those before it alone. Assumes nothing.
use Rattle.std.proofs.Common.{◌≡◌, ℕ, zero, suc, ◌+◌, ◌<◌, ◌≤◌, List, length, get_or, ℤ, sym, refl, ◌∙◌, subst, arith}
use Rattle.paths.specs.Combining.{Rule}
use Rattle.paths.specs.Paths.{Positive}
use Rattle.paths.specs.Sweep.{work, work_last, value_within, place_value, Swept}
use Rattle.paths.proofs.Related.{by_places, work_related, work_last_related}

-- what a place is given rests on the places before it, and on the scores of nodes that end there
module _ {X : Type 0} (r : Rule X) (ds : List ℕ) (positive : Positive ds) (score other : ℕ → ℕ → ℤ) (u v : ℕ → X) (p : ℕ)
    (before : (q : ℕ) → q < p → u q ≡ v q) (ending : (x t : ℕ) → t < length ds → x + get_or ds t 0 ≡ p → score x t ≡ other x t) where
  pub work_same : work r ds score u p ≡ work r ds other v p
  work_same =
      work_related r r (◌≡◌ {A = X}) refl (λ a b c d e f i. r.join (e i) (f i)) ds positive score other u v p
      (λ q t lt known e i. r.extend (before q lt i) (ending q t known e i))

  pub work_last_same : work_last r ds score u p ≡ work_last r ds other v p
  work_last_same =
      work_last_related r r (◌≡◌ {A = X}) refl (λ a b c d e f i. r.join (e i) (f i)) ds positive score other u v p
      (λ q t lt known e i. r.extend (before q lt i) (ending q t known e i)) (λ a b c d e f i. r.same (e i) (f i))

module _ {X : Type 0} (r : Rule X) (ds : List ℕ) (positive : Positive ds) (score : ℕ → ℕ → ℤ) where
  -- more turns than a place needs change nothing
  within_alike : (n m p : ℕ) → p ≤ n → p ≤ m → value_within r ds score n p ≡ value_within r ds score m p
  unfolding value_within
  within_alike zero zero zero a b = refl
  within_alike zero zero (suc p) a b = refl
  within_alike zero (suc m) zero a b = refl
  within_alike zero (suc m) (suc p) a b = absurd (omega arith)
  within_alike (suc n) zero zero a b = refl
  within_alike (suc n) zero (suc p) a b = absurd (omega arith)
  within_alike (suc n) (suc m) zero a b = refl
  within_alike (suc n) (suc m) (suc p) a b =
      work_same r ds positive score score (value_within r ds score n) (value_within r ds score m) (suc p)
      (λ q lt. within_alike n m q (omega arith) (omega arith)) (λ x t known e. refl)

  pub value_start : place_value r ds score 0 ≡ r.start
  unfolding place_value value_within
  value_start = refl

  pub value_works : (p : ℕ) → place_value r ds score (suc p) ≡ work r ds score (place_value r ds score) (suc p)
  unfolding place_value value_within
  value_works p =
      work_same r ds positive score score (value_within r ds score p) (λ q. value_within r ds score q q) (suc p)
      (λ q lt. within_alike p q q (omega arith) (omega arith)) (λ x t known e. refl)

  -- what a sweep gives is swept, and whatever is swept is that
  pub values_swept : (w : ℕ) → Swept r ds score (place_value r ds score) w
  values_swept w = record { starts = value_start; works = λ p lt. value_works p }

  pub swept_values : (v : ℕ → X) (w : ℕ) → Swept r ds score v w → (p : ℕ) → p ≤ w → v p ≡ place_value r ds score p
  swept_values v w s = by_places (λ p. p ≤ w → v p ≡ place_value r ds score p) next
    where
      next : (p : ℕ) → ((q : ℕ) → q < p → q ≤ w → v q ≡ place_value r ds score q) → p ≤ w → v p ≡ place_value r ds score p
      next zero before le = s.starts ∙ sym value_start
      next (suc p) before le =
          s.works p (omega arith)
          ∙ work_same r ds positive score score v (place_value r ds score) (suc p) (λ q lt. before q lt (omega arith)) (λ x t known e. refl)
          ∙ sym (value_works p)

-- what relates the starts and the nones of two rules, and goes through their joins and extensions, relates what sweeps give
module _ {X Y : Type 0} (r : Rule X) (s : Rule Y) (R : ℕ → X → Y → Type 0) (start : R 0 r.start s.start) (none : (p : ℕ) → R p r.none s.none)
    (join : (p : ℕ) (a b : X) (c d : Y) → R p a c → R p b d → R p (r.join a b) (s.join c d)) (ds : List ℕ) (positive : Positive ds)
    (score other : ℕ → ℕ → ℤ)
    (extend : (q p t : ℕ) (a : X) (c : Y) → q < p → R q a c → R p (r.extend a (score q t)) (s.extend c (other q t))) where
  pub values_related : (p : ℕ) → R p (place_value r ds score p) (place_value s ds other p)
  values_related = by_places (λ p. R p (place_value r ds score p) (place_value s ds other p)) next
    where
      next : (p : ℕ) → ((q : ℕ) → q < p → R q (place_value r ds score q) (place_value s ds other q)) → R p (place_value r ds score p) (place_value s ds other p)
      next zero before =
          subst (λ a. R 0 a (place_value s ds other 0)) (sym (value_start r ds positive score))
          (subst (R 0 r.start) (sym (value_start s ds positive other)) start)
      next (suc p) before =
          let here = work_related r s (R (suc p)) (none (suc p)) (join (suc p)) ds positive score other (place_value r ds score) (place_value s ds other) (suc p)
          (λ q t lt known e. extend q (suc p) t (place_value r ds score q) (place_value s ds other q) lt (before q lt)) in
          subst (λ a. R (suc p) a (place_value s ds other (suc p))) (sym (value_works r ds positive score p))
          (subst (R (suc p) (work r ds score (place_value r ds score) (suc p))) (sym (value_works s ds positive other p)) here)
