-- What the tests of orders and ranges decide. Assumes nothing.
use Rattle.std.proofs.Common.{ℕ, ◌≤◌, leb, ℤ, ◌≤ℤ◌, Decides, arith}
use lib.Signed.{le_z}
use Rattle.std.proofs.lemmas.Int.{ints}
use Rattle.std.proofs.lemmas.Bool.{leb-true, le-leb}
use Rattle.std.proofs.lemmas.Bool.Decides.{Decides-and}
use Rattle.octets.specs.Ranges.{from_to, signed_from_to}

pub decides_leb : (a b : ℕ) → Decides (leb a b) (a ≤ b)
decides_leb a b = (leb-true a b, le-leb a b)

pub decides_le_z : (a b : ℤ) → Decides (le_z a b) (a ≤ℤ b)
decides_le_z a b = (λ e. grind (arith, ints), λ e. grind (arith, ints))

pub decides_from_to : (low high n : ℕ) → Decides (from_to low high n) ((low ≤ n) × (n ≤ high))
decides_from_to low high n = Decides-and _ _ (decides_leb low n) (decides_leb n high)

pub decides_signed : (low high z : ℤ) → Decides (signed_from_to low high z) ((low ≤ℤ z) × (z ≤ℤ high))
decides_signed low high z = Decides-and _ _ (decides_le_z low z) (decides_le_z z high)
