-- Two joins side by side: what relates what they join relates what they come to. Assumes nothing.
use Rattle.std.proofs.Common.{◌≡◌, ℕ, zero, suc, ◌+◌, ◌-◌, ◌<◌, Bool, true, false, cond, leb, List, length, get_or, ℤ, refl, arith}
use Rattle.std.proofs.lemmas.Bool.{leb-true}
use Rattle.paths.specs.Combining.{Rule}
use Rattle.paths.specs.Paths.{Positive}
use Rattle.paths.specs.Sweep.{joined, changed, brings, work, work_last}

-- what follows at each place from all the places before it holds at every place
pub by_places : (P : ℕ → Type 0) → ((p : ℕ) → ((q : ℕ) → q < p → P q) → P p) → (p : ℕ) → P p
by_places P step p = below (suc p) p (omega arith)
  where
    below : (n q : ℕ) → q < n → P q
    below zero q lt = absurd (omega arith)
    below (suc n) q lt = step q (λ k less. below n k (omega arith))

-- of two pairs of related values one test chooses related ones
chosen : {X Y : Type 0} (R : X → Y → Type 0) (b : Bool) (a c : X) (d e : Y) → (b ≡ true → R a d) → R c e → R (cond b a c) (cond b d e)
chosen R true a c d e h k = h refl
chosen R false a c d e h k = k

module _ {X Y : Type 0} (r : Rule X) (s : Rule Y) (R : X → Y → Type 0) (none : R r.none s.none)
    (join : (a b : X) (c d : Y) → R a c → R b d → R (r.join a b) (s.join c d)) where
  module _ (f : ℕ → X) (g : ℕ → Y) where
    -- joins of related values are related
    pub joined_related : (n : ℕ) → ((t : ℕ) → t < n → R (f t) (g t)) → R (joined r f n) (joined s g n)
    unfolding joined
    joined_related zero h = none
    joined_related (suc n) h =
        join (joined r f n) (f n) (joined s g n) (g n) (joined_related n (λ t lt. h t (omega arith))) (h n (omega arith))

    -- and where the tests of the rules agree on related values, so do the numbers that changed the joins
    pub changed_related : ((a b : X) (c d : Y) → R a c → R b d → r.same a b ≡ s.same c d)
        → (n : ℕ) → ((t : ℕ) → t < n → R (f t) (g t)) → changed r f n ≡ changed s g n
    unfolding changed
    changed_related same zero h = refl
    changed_related same (suc n) h =
        let below : (t : ℕ) → t < n → R (f t) (g t) = λ t lt. h t (omega arith) in
        let e = same (joined r f (suc n)) (joined r f n) (joined s g (suc n)) (joined s g n) (joined_related (suc n) h) (joined_related n below) in
        let rest = changed_related same n below in
        λ i. cond (e i) (rest i) n

  module _ (ds : List ℕ) (positive : Positive ds) (score other : ℕ → ℕ → ℤ) (u : ℕ → X) (v : ℕ → Y) (p : ℕ)
      (lifted : (q t : ℕ) → q < p → t < length ds → q + get_or ds t 0 ≡ p → R (r.extend (u q) (score q t)) (s.extend (v q) (other q t))) where
    -- where nodes that end at a place bring related values, every template does
    pub brings_related : (t : ℕ) → t < length ds → R (brings r ds score u p t) (brings s ds other v p t)
    brings_related t known =
        let some : 0 < get_or ds t 0 = positive t known in
        chosen R (leb (get_or ds t 0) p) _ _ _ _
        (λ e. let few = leb-true (get_or ds t 0) p e in lifted (p - get_or ds t 0) t (omega arith) known (omega arith)) none

    -- so what working the place gives is related
    pub work_related : R (work r ds score u p) (work s ds other v p)
    work_related = joined_related (brings r ds score u p) (brings s ds other v p) (length ds) brings_related

    -- and its last template is the same
    pub work_last_related : ((a b : X) (c d : Y) → R a c → R b d → r.same a b ≡ s.same c d) → work_last r ds score u p ≡ work_last s ds other v p
    work_last_related same = changed_related (brings r ds score u p) (brings s ds other v p) same (length ds) brings_related
