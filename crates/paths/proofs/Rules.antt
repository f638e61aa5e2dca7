-- The combinings in use keep the laws that a sweep wants of them. Assumes nothing.
use Rattle.std.proofs.Common.{◌≡◌, ℕ, Bool, ℤ, pos, negsuc, ◌+ℤ◌, ◌≤ℤ◌, Some, None, Decides, Option, sym, refl, ap, ◌∙◌, arith}
use Rattle.std.proofs.Math.Bool.{or_assoc, or_comm, or-false}
use Rattle.std.proofs.lemmas.Int.{ints, by_lt_z}
use Rattle.std.proofs.lemmas.Bool.Decides.{Decides-int_eq}
use Rattle.std.specs.Cmp.{booleans_Decides}
use Rattle.std.specs.Int.{int_max, saturate_to_bits}
use Rattle.std.specs.Option.{option_eq}
use Rattle.std.specs.Ordering.{int_eq}
use Rattle.paths.specs.Combining.{RuleLawful, reach, added, greater, totals_by, totals, capped_totals}

-- whether a path comes to a place keeps the laws
pub reach_lawful : RuleLawful Bool reach
reach_lawful = record {
  associative = or_assoc;
  commutative = or_comm;
  neutral = or-false;
  spreads = λ a b s. refl;
  none_stays = λ s. refl;
  same_tells = booleans_Decides;
}

-- the greatest of three totals, of which some may be missing: the grouping does not matter
greater_associative : (a b c : Option ℤ) → greater (greater a b) c ≡ greater a (greater b c)
greater_associative None b c = refl
greater_associative (Some a) None c = refl
greater_associative (Some a) (Some b) None = refl
greater_associative (Some a) (Some b) (Some c) = ap Some (grind (arith, ints))

-- the greater of two totals: the order does not matter
greater_commutative : (a b : Option ℤ) → greater a b ≡ greater b a
greater_commutative None None = refl
greater_commutative None (Some b) = refl
greater_commutative (Some a) None = refl
greater_commutative (Some a) (Some b) = ap Some (grind (arith, ints))

-- a missing total beside another changes nothing
greater_neutral : (a : Option ℤ) → greater a None ≡ a
greater_neutral None = refl
greater_neutral (Some a) = refl

-- a score added to the greater of two sums, held to a range, is the greater of the two so treated
max_added : (cap : ℤ → ℤ) → ((a b : ℤ) → a ≤ℤ b → cap a ≤ℤ cap b) → (a b s : ℤ) → cap (int_max a b +ℤ s) ≡ int_max (cap (a +ℤ s)) (cap (b +ℤ s))
max_added cap rising a b s = by_lt_z b a
    (λ h.
    let e : int_max a b ≡ a = grind (arith, ints) in
    let k : cap (b +ℤ s) ≤ℤ cap (a +ℤ s) = rising (b +ℤ s) (a +ℤ s) (omega (arith, ints)) in
    let m : int_max (cap (a +ℤ s)) (cap (b +ℤ s)) ≡ cap (a +ℤ s) = grind (arith, ints) in
    ap (λ z. cap (z +ℤ s)) e ∙ sym m)
    (λ h.
    let e : int_max a b ≡ b = grind (arith, ints) in
    let k : cap (a +ℤ s) ≤ℤ cap (b +ℤ s) = rising (a +ℤ s) (b +ℤ s) (omega (arith, ints)) in
    let m : int_max (cap (a +ℤ s)) (cap (b +ℤ s)) ≡ cap (b +ℤ s) = grind (arith, ints) in
    ap (λ z. cap (z +ℤ s)) e ∙ sym m)

-- a score added to the greater of two totals, of which either may be missing, is the greater of the two with it added
greater_added : (cap : ℤ → ℤ) → ((a b : ℤ) → a ≤ℤ b → cap a ≤ℤ cap b) → (a b : Option ℤ) (s : ℤ) → added cap (greater a b) s ≡ greater (added cap a s) (added cap b s)
greater_added cap rising None b s = refl
greater_added cap rising (Some a) None s = refl
greater_added cap rising (Some a) (Some b) s = ap Some (max_added cap rising a b s)

-- the test of two totals tells whether they are the same
same_total_tells : (a b : Option ℤ) → Decides (option_eq int_eq a b) (a ≡ b)
same_total_tells None None = (λ e. refl, λ e. refl)
same_total_tells None (Some b) = (λ e. cc, λ e. cc)
same_total_tells (Some a) None = (λ e. cc, λ e. cc)
same_total_tells (Some a) (Some b) = (λ e. ap Some ((Decides-int_eq a b).0 e), λ e. (Decides-int_eq a b).1 (cc))

-- totals keep the laws, however their sums are held to a range, so long as a greater sum stays no less
pub totals_by_lawful : (cap : ℤ → ℤ) → ((a b : ℤ) → a ≤ℤ b → cap a ≤ℤ cap b) → RuleLawful (Option ℤ) (totals_by cap)
totals_by_lawful cap rising = record {
  associative = greater_associative;
  commutative = greater_commutative;
  neutral = greater_neutral;
  spreads = greater_added cap rising;
  none_stays = λ s. refl;
  same_tells = same_total_tells;
}

-- totals whose sums nothing holds keep the laws
pub totals_lawful : RuleLawful (Option ℤ) totals
totals_lawful = totals_by_lawful (λ z. z) (λ a b h. h)

-- a greater sum stays no less where sums stop at the ends of a range
pub saturated_rises : (h : ℕ) (a b : ℤ) → a ≤ℤ b → saturate_to_bits h a ≤ℤ saturate_to_bits h b
saturated_rises h (pos a) (pos b) le = omega (arith, ints)
saturated_rises h (pos a) (negsuc b) le = omega (arith, ints)
saturated_rises h (negsuc a) (pos b) le = omega (arith, ints)
saturated_rises h (negsuc a) (negsuc b) le = omega (arith, ints)

-- totals as 64 bits hold them keep the laws
pub capped_lawful : RuleLawful (Option ℤ) capped_totals
capped_lawful = totals_by_lawful (saturate_to_bits 63) (saturated_rises 63)
