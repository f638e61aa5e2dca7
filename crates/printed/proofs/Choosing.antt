-- What a chain over a range picks: the greatest of its values, and the best of some rows. Assumes nothing.
use Rattle.std.proofs.Common.{◌≡◌, ℕ, zero, suc, ◌+◌, ◌<◌, ◌≤◌, get_or, subst, ⊎_elim, Bool, true, false, cond, List, [], ◌∷◌, ◌++◌, map, Option, None, Some, ℤ, refl, sym, ap, ◌∙◌, arith}
use denote.Param.Members.{Mut, Called}
use denote.Ref.{Bor}
use mathlib.Core.List.{map-id}
use Rattle.std.proofs.iter.Yields.{gives_Drains}
use Rattle.std.proofs.lemmas.Iterator.{YieldsList}
use Rattle.std.specs.Fn.{CalledAt}
use Rattle.std.specs.Iterator.{KeyTurn, PicksMinByKey}
use Rattle.std.specs.declared.cmp.Ordering.{Ordering}
use lib.Signed.{lt_z}
use Rattle.std.proofs.lemmas.Bool.{cases_lt}
use Rattle.std.specs.Array.{IsFromFnResultFrom}
use Rattle.std.proofs.lemmas.Int.{ints, by_lt_z}
use Rattle.std.proofs.lemmas.List.FromFn.{map-range_with_len_more}
use Rattle.std.proofs.lemmas.List.Sums.{fold_push}
use Rattle.std.specs.Int.{int_max}
use Rattle.std.specs.List.{FoldsTo, range_with_len, fold, reduce}
use Rattle.std.specs.Ordering.{int_cmp, max_by_ordering, min_by_ordering}
use Rattle.matching.specs.Counts.{greatest, lowest}
use Rattle.printed.specs.declared.best.Best.{Best}

more : {X : Type 0} (f : ℕ → X) (a n j : ℕ) → a + n ≡ j → map f (range_with_len a (suc n)) ≡ map f (range_with_len a n) ++ f j ∷ []
more f a n j at =
    let e : suc n ≡ n + 1 = omega arith in
    ap (λ k. map f (range_with_len a k)) e ∙ map-range_with_len_more f a n j at

reduce_push : {X : Type 0} (g : X → X → X) (xs : List X) (y v : X) → reduce g xs ≡ Some v → reduce g (xs ++ y ∷ []) ≡ Some (g v y)
reduce_push g [] y v e = cc
reduce_push g (x ∷ xs) y v e =
    let here : fold g x xs ≡ v = cc in
    ap Some (fold_push g x xs y ∙ ap (λ q. g q y) here)

-- the greater of two numbers, as `max` picks it
abbrev pub greater : ℤ → ℤ → ℤ
greater p z = max_by_ordering (int_cmp p z) p z

picks : (p z : ℤ) → greater p z ≡ int_max z p
picks p z = by_lt_z p z (λ h. grind (arith, ints)) (λ h. by_lt_z z p (λ k. grind (arith, ints)) (λ k. grind (arith, ints)))

pub greatest_over : (f : ℕ → ℤ) (a n : ℕ) → reduce greater (map (λ i. f (a + i)) (range_with_len 0 (suc n))) ≡ Some (greatest f a n)
unfolding greatest
greatest_over f a zero = let e : a + 0 ≡ a = omega arith in ap (λ k. Some (f k)) e
greatest_over f a (suc n) =
    let g : ℕ → ℤ = λ i. f (a + i) in
    ap (reduce greater) (more g 0 (suc n) (suc n) (omega arith)) ∙ reduce_push greater (map g (range_with_len 0 (suc n))) (f (a + suc n)) (greatest f a n) (greatest_over f a n)
    ∙ ap Some (picks (greatest f a n) (f (a + suc n)))

-- what calls that change no state make of the numbers from i on; `cells` has this lemma too, since the crates below both are
-- about other things
pub made_each : {F B : Type 0} (g : Mut F (ℕ × Unit {0}) B) (f : F) (h : ℕ → B) → ((i : ℕ) (y : B) (q : F) → Called g f (i, tt) y q → (q ≡ f) × (y ≡ h i)) → (ys : List B) (i n : ℕ) → IsFromFnResultFrom g f ys i n → (k : ℕ) → i ≤ k → k < i + n → (d : B) → get_or ys k d ≡ h k
made_each g f h each ys i zero made k low high d = absurd (omega arith)
made_each {B = B} g f h each ys i (suc n) made k low high d =
    let here = each i made.1 made.0 made.3 in
    ⊎_elim
    (λ first. let e : k ≡ i = omega arith in subst (λ j. get_or ys j d ≡ h j) (sym e) (made.2.1 d ∙ here.1))
    (λ later. made_each g f h each ys (i + 1) n (subst (λ q. IsFromFnResultFrom g q ys (i + 1) n) here.0 made.4) k later (omega arith) d)
    (cases_lt k (i + 1))

-- of two things with the keys p and z, the one that stands first in the opposite order, and the first where they are equal
pub flipped : {X : Type 0} (p z : ℤ) (x y : X) → min_by_ordering (int_cmp z p) x y ≡ cond (lt_z p z) y x
flipped p z x y = by_lt_z p z (λ h. grind (arith, ints)) (λ h. by_lt_z z p (λ k. grind (arith, ints)) (λ k. grind (arith, ints)))

of_cond : {X Y : Type 0} (k : X → Y) (b : Bool) (x y : X) → cond b (k x) (k y) ≡ k (cond b x y)
of_cond k true x y = refl
of_cond k false x y = refl

-- `min_by_key`, where calls give each item's key and change no state, and the later of two items is taken where a test holds
module _ {A F K : Type 0} (g : Mut F (Bor A × Unit {0}) K) (cmp : K → K → Ordering) (key : A → K) (takes : A → A → Bool) {f : F} (calls : (x : A) (k : K) (q : F) → CalledAt g f x k q → (q ≡ f) × (k ≡ key x)) (picks : (X : Type 0) (a b : A) (x y : X) → min_by_ordering (cmp (key a) (key b)) x y ≡ cond (takes a b) y x) where
  abbrev h : A → A → A
  h a b = cond (takes a b) b a

  keyed : (xs : List A) (p q : (F × K) × A) → p.0.0 ≡ f → p.0.1 ≡ key p.1 → FoldsTo {P = (F × K) × A} (KeyTurn min_by_ordering min_by_ordering g cmp) p xs q → q.1 ≡ fold h p.1 xs
  keyed [] p q a b c = ap (λ w. w.1) (sym c)
  keyed (x ∷ xs) p q a b c =
      let turn = c.1 in
      let call = calls x turn.0 c.0.0.0 (subst (λ w. CalledAt g w x turn.0 c.0.0.0) a turn.2) in
      let order : turn.1 ≡ cmp (key p.1) (key x) = sym turn.3 ∙ (λ i. cmp (b i) (call.1 i)) in
      let item : c.0.1 ≡ h p.1 x = turn.5 ∙ ap (λ o. min_by_ordering o p.1 x) order ∙ picks A p.1 x p.1 x in
      let next : c.0.0.1 ≡ key c.0.1 = turn.4 ∙ (λ i. min_by_ordering (order i) (b i) (call.1 i)) ∙ picks K p.1 x (key p.1) (key x) ∙ of_cond key (takes p.1 x) x p.1 ∙ ap key (sym item) in
      keyed xs c.0 q call.0 next c.2 ∙ ap (λ w. fold h w xs) item

  pub first_by_key : {S : Type 0} {steps : S → Option A → S → Type 0} {all : List A} (s : S) (r : Option A) → PicksMinByKey steps g cmp s f r → YieldsList steps (λ x. x) s all → r ≡ reduce h all
  first_by_key {steps = steps} {all} s None d road = ap (reduce h) (gives_Drains steps (λ x. x) [] all s road.runs d)
  first_by_key {steps = steps} {all} s (Some y) d road =
      let call = calls d.0 d.2 d.3 d.6 in
      ap Some (keyed d.1 ((d.3, d.2), d.0) (d.4, y) call.0 call.1 d.7) ∙ ap (reduce h) (sym (map-id (d.0 ∷ d.1)) ∙ gives_Drains steps (λ x. x) (d.0 ∷ d.1) all s road.runs d.5)

module _ (f : ℕ → ℤ) where
  abbrev pub row_of : ℕ → Best
  row_of row = record { score = f row; row = row }

  abbrev pub better : Best → Best → Best
  better a b = cond (lt_z a.score b.score) b a

  -- the lowest row whose score none is above
  best_over : (n : ℕ) → fold better (row_of 0) (map row_of (range_with_len 1 n)) ≡ row_of (lowest f n)
  unfolding lowest
  best_over zero = refl
  best_over (suc n) =
      ap (fold better (row_of 0)) (more row_of 1 n (suc n) (omega arith)) ∙ fold_push better (row_of 0) (map row_of (range_with_len 1 n)) (row_of (suc n))
      ∙ ap (λ a. better a (row_of (suc n))) (best_over n) ∙ of_cond row_of (lt_z (f (lowest f n)) (f (suc n))) (suc n) (lowest f n)

  pub best_of_rows : (n : ℕ) → reduce better (map row_of (range_with_len 0 (suc n))) ≡ Some (row_of (lowest f n))
  best_of_rows n = ap Some (best_over n)
