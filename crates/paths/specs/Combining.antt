-- What a sweep can combine, the laws that it owes, and the two combinings in use. Assumes nothing.
use Rattle.std.specs.Prelude.{◌≡◌, Bool, true, false, ◌||◌, ℤ, pos, ◌+ℤ◌, Some, None, Decides, Option}
use Rattle.std.specs.Int.{int_max, saturate_to_bits}
use Rattle.std.specs.Option.{option_eq}
use Rattle.std.specs.Ordering.{int_eq}
use Rattle.std.proofs.Math.Bool.{beq}

-- a start, a none, how a value is extended by a score, how two are joined; and a test whether two are the same
pub record Rule (X : Type 0) : Type 0 where
  pub start : X
  pub none : X
  pub extend : X → ℤ → X
  pub join : X → X → X
  pub same : X → X → Bool

pub record RuleLawful (X : Type 0) (r : Rule X) : Type 0 where
  pub associative : (a b c : X) → r.join (r.join a b) c ≡ r.join a (r.join b c)
  pub commutative : (a b : X) → r.join a b ≡ r.join b a
  pub neutral : (a : X) → r.join a r.none ≡ a
  pub spreads : (a b : X) (s : ℤ) → r.extend (r.join a b) s ≡ r.join (r.extend a s) (r.extend b s)
  pub none_stays : (s : ℤ) → r.extend r.none s ≡ r.none
  pub same_tells : (a b : X) → Decides (r.same a b) (a ≡ b)

-- yes or no: does a path come here
abbrev pub reach : Rule Bool
reach = record { start = true; none = false; extend = λ b _. b; join = ◌||◌; same = beq }

-- totals: nothing, or a sum, which extending adds to and of which joining takes the greater
abbrev pub added : (ℤ → ℤ) → Option ℤ → ℤ → Option ℤ
added cap None s = None
added cap (Some z) s = Some (cap (z +ℤ s))

abbrev pub greater : Option ℤ → Option ℤ → Option ℤ
greater None b = b
greater (Some a) None = Some a
greater (Some a) (Some b) = Some (int_max a b)

abbrev pub totals_by : (ℤ → ℤ) → Rule (Option ℤ)
totals_by cap = record { start = Some (pos 0); none = None; extend = added cap; join = greater; same = option_eq int_eq }

abbrev pub totals : Rule (Option ℤ)
totals = totals_by (λ z. z)

-- totals as 64 bits hold them, where a sum beyond its range stops at the end of the range
abbrev pub capped_totals : Rule (Option ℤ)
capped_totals = totals_by (saturate_to_bits 63)
