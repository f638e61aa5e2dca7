-- A place that the incremental sweep does not work has its old total moved by a difference, and its old last template. Assumes nothing.
use Rattle.std.proofs.Common.{◌≡◌, ℕ, zero, suc, ◌+◌, ◌-◌, ◌<◌, ◌≤◌, min, Bool, false, not, ◌||◌, List, length, get_or, ℤ, pos, is_some, Some, None, Option, sym, refl, ap, ◌∙◌, arith}
use Rattle.std.proofs.lemmas.Int.{ints}
use Rattle.std.proofs.lemmas.Bool.{or_parts, not-false}
use Rattle.std.specs.Option.{option_eq}
use Rattle.std.specs.Ordering.{int_eq}
use Rattle.paths.specs.Combining.{totals, added, greater}
use Rattle.paths.specs.Increments.{differ, difference, one_difference, longest, is_worked, moved, Owed}
use Rattle.paths.specs.Paths.{Positive}
use Rattle.paths.specs.Sweep.{work, place_value, place_last}
use Rattle.paths.proofs.Basics.{value_start, value_works, values_related}
use Rattle.paths.proofs.Related.{work_related, work_last_related}
use Rattle.paths.proofs.Runs.{one_difference_tells, le_longest}

-- two totals join to one where either is there, and a score leaves a total there
greater_some : (a b : Option ℤ) → is_some (greater a b) ≡ (is_some a || is_some b)
greater_some None b = refl
greater_some (Some a) None = refl
greater_some (Some a) (Some b) = refl

added_some : (cap : ℤ → ℤ) (a : Option ℤ) (s : ℤ) → is_some (added cap a s) ≡ is_some a
added_some cap None s = refl
added_some cap (Some a) s = refl

-- which places are reached does not rest on the scores
pub reached_alike : (ds : List ℕ) (positive : Positive ds) (score other : ℕ → ℕ → ℤ) (p : ℕ)
    → is_some (place_value totals ds score p) ≡ is_some (place_value totals ds other p)
reached_alike ds positive score other =
    values_related totals totals (λ p a b. is_some a ≡ is_some b) refl (λ p. refl)
    (λ p a b c d h k. greater_some a b ∙ (λ i. h i || k i) ∙ sym (greater_some c d)) ds positive score other
    (λ q p t a c less h. added_some (λ z. z) a (score q t) ∙ h ∙ sym (added_some (λ z. z) c (other q t)))

-- to move two totals moves the greater, keeps whether they are the same, and goes through a score
greater_moved : (a b : Option ℤ) (g : ℤ) → greater (moved a g) (moved b g) ≡ moved (greater a b) g
greater_moved None b g = refl
greater_moved (Some a) None g = refl
greater_moved (Some a) (Some b) g = ap Some (grind (arith, ints))

same_moved : (a b : Option ℤ) (g : ℤ) → option_eq int_eq (moved a g) (moved b g) ≡ option_eq int_eq a b
same_moved None None g = refl
same_moved None (Some b) g = refl
same_moved (Some a) None g = refl
same_moved (Some a) (Some b) g = grind (arith, ints)

added_moved : (a : Option ℤ) (g s : ℤ) → added (λ z. z) (moved a g) s ≡ moved (added (λ z. z) a s) g
added_moved None g s = refl
added_moved (Some a) g s = ap Some (omega (arith, ints))

-- of two totals that are there alike, the new one is the old one moved by their difference
differ_moves : (a b : Option ℤ) (before : ℤ) → is_some a ≡ is_some b → b ≡ moved a (differ a b before)
differ_moves None None before alike = refl
differ_moves None (Some b) before alike = cc
differ_moves (Some a) None before alike = cc
differ_moves (Some a) (Some b) before alike = ap Some (omega (arith, ints))

module _ (ds : List ℕ) (positive : Positive ds) (w : ℕ) (score : ℕ → ℕ → ℤ) (fresh : ℕ → Bool) (old : ℕ → Option ℤ) (last : ℕ → ℕ)
    (o : Owed ds w score fresh old last) where
  -- every place has its old total moved by its difference
  pub difference_moves : (q : ℕ) → q ≤ w → place_value totals ds score q ≡ moved (old q) (difference old (place_value totals ds score) q)
  unfolding difference
  difference_moves zero within =
      let was : old 0 ≡ Some (pos 0) = o.old_totals 0 within ∙ value_start totals ds positive o.before in
      value_start totals ds positive score ∙ sym (ap (λ a. moved a (pos 0)) was)
  difference_moves (suc q) within =
      differ_moves (old (suc q)) (place_value totals ds score (suc q)) (difference old (place_value totals ds score) q)
      (ap is_some (o.old_totals (suc q) within) ∙ reached_alike ds positive o.before score (suc q))

  -- the new totals, the old ones, and their differences
  abbrev now : ℕ → Option ℤ
  now = place_value totals ds score

  abbrev then : ℕ → Option ℤ
  then = place_value totals ds o.before

  abbrev gap : ℕ → ℤ
  gap = difference old now

  module _ (p : ℕ) (inside : p < w) (idle : is_worked ds fresh (difference old (place_value totals ds score)) (suc p) ≡ false) where
    -- a place that is not worked is not fresh, and those before it that a template can span have one difference
    stale : (fresh (suc p) ≡ false) × (not (one_difference gap (suc p) (min (longest ds) (suc p))) ≡ false)
    stale = or_parts (fresh (suc p)) (not (one_difference gap (suc p) (min (longest ds) (suc p)))) idle

    spanned : (d : ℕ) → 1 ≤ d → d ≤ longest ds → d ≤ suc p → gap (suc p - d) ≡ gap p
    spanned d some few within =
        let n : ℕ = min (longest ds) (suc p) in
        (one_difference_tells gap (suc p) n).0 (not-false (one_difference gap (suc p) n) stale.1) d some (omega arith) ∙ ap gap (omega arith)

    -- the scores of the nodes that end there are the earlier ones
    kept : (x t : ℕ) → t < length ds → x + get_or ds t 0 ≡ suc p → score x t ≡ o.before x t
    kept x t known ends = sym (o.unchanged x t known (omega arith) (ap fresh ends ∙ stale.0))

    -- so every node that ends there brings what it brought, moved by that difference
    node_moved : (q t : ℕ) → q < suc p → t < length ds → q + get_or ds t 0 ≡ suc p → added (λ z. z) (now q) (score q t) ≡ moved (added (λ z. z) (then q) (o.before q t)) (gap p)
    node_moved q t less known e =
        let some : 1 ≤ get_or ds t 0 = positive t known in
        let was : old q ≡ then q = o.old_totals q (omega arith) in
        let there : suc p - get_or ds t 0 ≡ q = omega arith in
        let one : gap q ≡ gap p = ap gap (sym there) ∙ spanned (get_or ds t 0) some (le_longest ds t known) (omega arith) in
        let begins : now q ≡ moved (then q) (gap p) = difference_moves q (omega arith) ∙ (λ i. moved (was i) (one i)) in
        let same : score q t ≡ o.before q t = kept q t known e in
        (λ i. added (λ z. z) (begins i) (same i)) ∙ added_moved (then q) (gap p) (o.before q t)

    -- to move both totals by it moves their join
    join_moved : (a b c d : Option ℤ) → c ≡ moved a (gap p) → d ≡ moved b (gap p) → greater c d ≡ moved (greater a b) (gap p)
    join_moved a b c d e f = (λ i. greater (e i) (f i)) ∙ greater_moved a b (gap p)

    -- a place that is not worked has its old total moved by the difference of the place before it, and its old last template
    pub skipped : place_value totals ds score (suc p) ≡ moved (old (suc p)) (difference old (place_value totals ds score) p)
    skipped =
        let was : old (suc p) ≡ work totals ds o.before then (suc p) = o.old_totals (suc p) (omega arith) ∙ value_works totals ds positive o.before p in
        value_works totals ds positive score p
        ∙ work_related totals totals (λ a c. c ≡ moved a (gap p)) refl join_moved ds positive o.before score then now (suc p) node_moved
        ∙ sym (ap (λ a. moved a (gap p)) was)

    pub skipped_last : place_last totals ds score (suc p) ≡ last (suc p)
    skipped_last =
        sym (work_last_related totals totals (λ a c. c ≡ moved a (gap p)) refl join_moved ds positive o.before score then now (suc p) node_moved
        (λ a b c d e f. sym (same_moved a b (gap p)) ∙ (λ i. option_eq int_eq (sym e i) (sym f i))))
        ∙ sym (o.old_lasts (suc p) (omega arith))
