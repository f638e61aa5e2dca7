-- The incremental sweep: which places it works, and what it rests on. Assumes nothing.
use Rattle.std.specs.Prelude.{◌≡◌, ℕ, zero, suc, ◌+◌, ◌-◌, ◌<◌, ◌≤◌, min, max, Bool, true, false, cond, not, ◌&&◌, ◌||◌, List, length, ℤ, pos, ◌-ℤ◌, Some, None, fold, Option, slice_index}
use Rattle.std.specs.Ordering.{int_eq}
use Rattle.paths.specs.Combining.{totals}
use Rattle.paths.specs.Sweep.{place_value, place_last}

-- the new total less the old one; where a place is not reached, the difference of the place before
abbrev pub differ : Option ℤ → Option ℤ → ℤ → ℤ
differ None new before = before
differ (Some a) None before = before
differ (Some a) (Some b) before = b -ℤ a

unfoldable pub difference : (ℕ → Option ℤ) → (ℕ → Option ℤ) → ℕ → ℤ
difference old new zero = pos 0
difference old new (suc p) = differ (old (suc p)) (new (suc p)) (difference old new p)

-- whether the n places before p have one difference
unfoldable pub one_difference : (ℕ → ℤ) → ℕ → ℕ → Bool
one_difference d p zero = true
one_difference d p (suc n) = one_difference d p n && int_eq (d (p - suc n)) (d (p - 1))

-- the largest setwidth
abbrev pub longest : List ℕ → ℕ
longest ds = fold max 0 ds

-- a place is worked if it ends a newly marked node, or if the places before it that a template can span, all of them if
-- they are fewer, have not one difference
abbrev pub is_worked : List ℕ → (ℕ → Bool) → (ℕ → ℤ) → ℕ → Bool
is_worked ds fresh d p = fresh p || not (one_difference d p (min (longest ds) p))

-- how many of the places 1 to p are worked
unfoldable pub worked_places : List ℕ → (ℕ → Bool) → (ℕ → ℤ) → ℕ → ℕ
worked_places ds fresh d zero = 0
worked_places ds fresh d (suc p) = worked_places ds fresh d p + cond (is_worked ds fresh d (suc p)) 1 0

-- an old total moved by a difference
abbrev pub moved : Option ℤ → ℤ → Option ℤ
moved v d = totals.extend v d

-- how many places up to p, p the last of them, have the difference of p
unfoldable pub run_length : (ℕ → ℤ) → ℕ → ℕ
run_length d zero = 1
run_length d (suc p) = cond (int_eq (d (suc p)) (d p)) (run_length d p + 1) 1

-- old totals and last templates are those of a sweep over earlier scores, which since then changed at nodes alone whose
-- ends are noted as fresh
pub record Owed (ds : List ℕ) (w : ℕ) (score : ℕ → ℕ → ℤ) (fresh : ℕ → Bool) (old : ℕ → Option ℤ) (last : ℕ → ℕ) : Type 0 where
  pub before : ℕ → ℕ → ℤ
  pub old_totals : (p : ℕ) → p ≤ w → old p ≡ place_value totals ds before p
  pub old_lasts : (p : ℕ) → p ≤ w → last p ≡ place_last totals ds before p
  pub unchanged : (x t : ℕ) → t < length ds → x + slice_index ds t ≤ w → fresh (x + slice_index ds t) ≡ false → before x t ≡ score x t
