-- Totals of limited scores stay within their limits, so that none of a line is ever held to the range of 64 bits. Assumes nothing.
use Rattle.std.proofs.Common.{◌≡◌, ℕ, ◌^◌, ◌<◌, ◌≤◌, List, ℤ, pos, negsuc, ◌+ℤ◌, neg_ℤ, ◌≤ℤ◌, Some, None, Option, refl, ap, ◌∙◌, arith}
use Rattle.std.proofs.lemmas.Int.{ints}
use Rattle.std.specs.Int.{saturate_to_bits}
use Rattle.std.specs.Option.{option_eq}
use Rattle.std.specs.Ordering.{int_eq}
use Rattle.scorer.specs.Meaning.{ScoreWithin}
use Rattle.paths.specs.Combining.{added, greater, totals, capped_totals}
use Rattle.paths.specs.Paths.{Positive}
use Rattle.paths.specs.Sweep.{place_value, place_last}
use Rattle.paths.specs.Totals.{Limited, TotalWithin}
use Rattle.paths.proofs.Basics.{values_related}
use Rattle.paths.proofs.Related.{work_last_related}

-- the greater of two totals stays within their limit
greater_within : (p : ℕ) (a b : Option ℤ) → TotalWithin p a → TotalWithin p b → TotalWithin p (greater a b)
greater_within p None b h k = k
greater_within p (Some a) None h k = h
greater_within p (Some a) (Some b) h k = (grind (arith, ints), grind (arith, ints))

-- a score more takes a total to the limit of a later place
added_within : (q p : ℕ) → q < p → (v : Option ℤ) (s : ℤ) → TotalWithin q v → ScoreWithin s → TotalWithin p (added (λ z. z) v s)
added_within q p less None s h k = tt
added_within q p less (Some z) s h k = (omega (arith, ints, h, k), omega (arith, ints, h, k))

-- a sum far inside the range of 64 bits is left as it is
pub saturated_fits : (z : ℤ) → neg_ℤ (pos (2 ^ 62)) ≤ℤ z → z ≤ℤ pos (2 ^ 62) → saturate_to_bits 63 z ≡ z
saturated_fits (pos n) low high = ap pos (omega (arith, ints))
saturated_fits (negsuc n) low high = ap negsuc (omega (arith, ints))

-- a score more at a place of a line is far inside the range
added_alike : (q : ℕ) → q < 2048 → (v : Option ℤ) (s : ℤ) → TotalWithin q v → ScoreWithin s → added (saturate_to_bits 63) v s ≡ added (λ z. z) v s
added_alike q less None s h k = refl
added_alike q less (Some z) s h k = ap Some (saturated_fits (z +ℤ s) (omega (arith, ints, h, k)) (omega (arith, ints, h, k)))

-- at a place of a line the total held to the range is the other one, which is within the place's limit
abbrev Unheld : ℕ → Option ℤ → Option ℤ → Type 0
Unheld p held free = (p ≤ 2048 → held ≡ free) × TotalWithin p free

unheld_join : (p : ℕ) (a b c d : Option ℤ) → Unheld p a c → Unheld p b d → Unheld p (greater a b) (greater c d)
unheld_join p a b c d h k = (λ short i. greater (h.0 short i) (k.0 short i), greater_within p c d h.1 k.1)

unheld_added : (q p : ℕ) (s : ℤ) (a c : Option ℤ) → q < p → ScoreWithin s → Unheld q a c → Unheld p (added (saturate_to_bits 63) a s) (added (λ z. z) c s)
unheld_added q p s a c less within h =
    (λ short. ap (λ v. added (saturate_to_bits 63) v s) (h.0 (omega arith)) ∙ added_alike q (omega arith) c s h.1 within, added_within q p less c s h.1 within)

module _ (ds : List ℕ) (positive : Positive ds) (score : ℕ → ℕ → ℤ) (limited : Limited score) where
  unheld : (p : ℕ) → Unheld p (place_value capped_totals ds score p) (place_value totals ds score p)
  unheld =
      values_related capped_totals totals Unheld (λ short. refl, (omega (arith, ints), omega (arith, ints))) (λ p. (λ short. refl, tt)) unheld_join ds positive score score
      (λ q p t a c less h. unheld_added q p (score q t) a c less (limited q t) h)

  -- the total at a place is of at most as many scores as the place has columns before it
  pub total_within : (p : ℕ) → TotalWithin p (place_value totals ds score p)
  total_within p = (unheld p).1

  -- totals that stop at the ends of the range are the totals
  pub unsaturated : (p : ℕ) → p ≤ 2048 → place_value capped_totals ds score p ≡ place_value totals ds score p
  unsaturated p = (unheld p).0

  -- and their last templates are those of the totals
  pub unsaturated_last : (p : ℕ) → p ≤ 2048 → place_last capped_totals ds score p ≡ place_last totals ds score p
  unsaturated_last p short =
      work_last_related capped_totals totals (Unheld p) (λ _. refl, tt) (unheld_join p) ds positive score score (place_value capped_totals ds score) (place_value totals ds score) p
      (λ q t less known e. unheld_added q p (score q t) (place_value capped_totals ds score q) (place_value totals ds score q) less (limited q t) (unheld q))
      (λ a b c d h k i. option_eq int_eq (h.0 short i) (k.0 short i))
