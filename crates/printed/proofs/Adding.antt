-- A sum of two signed values, and when it fits. Assumes nothing.
use Rattle.std.proofs.Common.{◌≡◌, ℕ, ◌+◌, ◌^◌, ◌<◌, ℤ, ◌+ℤ◌, sym, ap, ◌∙◌, subst, arith, w64, SFits, to_z, of_z}
use Rattle.std.proofs.lemmas.Int.{ints, to_z-of_z}
use Rattle.matching.proofs.Ranges.{Within, within_add}

pub fits_within : (k : ℕ) (z : ℤ) → k < 2 ^ 63 → Within k z → SFits w64 z
fits_within k z h w = omega (arith, ints, w.0, w.1)

-- a value that is handed on
pub held : (k : ℕ) (a x : ℤ) → a ≡ x → Within k x → k < 2 ^ 63 → to_z w64 (of_z w64 a) ≡ x
held k a x p v h = ap (λ z. to_z w64 (of_z w64 z)) p ∙ to_z-of_z w64 x (fits_within k x h v)

-- the sum fits, and is that of the values
pub total : (m n : ℕ) (a b x y : ℤ) → a ≡ x → b ≡ y → Within m x → Within n y → m + n < 2 ^ 63 → SFits w64 (to_z w64 (of_z w64 a) +ℤ to_z w64 (of_z w64 b)) × (to_z w64 (of_z w64 (to_z w64 (of_z w64 a) +ℤ to_z w64 (of_z w64 b))) ≡ x +ℤ y)
total m n a b x y p q v w few =
    let first : to_z w64 (of_z w64 a) ≡ x = held m a x p v (omega arith) in
    let second : to_z w64 (of_z w64 b) ≡ y = held n b y q w (omega arith) in
    let sum : to_z w64 (of_z w64 a) +ℤ to_z w64 (of_z w64 b) ≡ x +ℤ y = λ i. first i +ℤ second i in
    let fits : SFits w64 (x +ℤ y) = fits_within (m + n) (x +ℤ y) few (within_add m n x y v w) in
    (subst (SFits w64) (sym sum) fits, ap (λ z. to_z w64 (of_z w64 z)) sum ∙ to_z-of_z w64 (x +ℤ y) fits)

-- the same of a sum so far, which is a value already
pub onto : (m n : ℕ) (s b x y : ℤ) → s ≡ x → b ≡ y → Within m x → Within n y → m + n < 2 ^ 63 → SFits w64 (s +ℤ to_z w64 (of_z w64 b)) × (to_z w64 (of_z w64 (s +ℤ to_z w64 (of_z w64 b))) ≡ x +ℤ y)
onto m n s b x y p q v w few =
    let second : to_z w64 (of_z w64 b) ≡ y = held n b y q w (omega arith) in
    let sum : s +ℤ to_z w64 (of_z w64 b) ≡ x +ℤ y = λ i. p i +ℤ second i in
    let fits : SFits w64 (x +ℤ y) = fits_within (m + n) (x +ℤ y) few (within_add m n x y v w) in
    (subst (SFits w64) (sym sum) fits, ap (λ z. to_z w64 (of_z w64 z)) sum ∙ to_z-of_z w64 (x +ℤ y) fits)
