-- A number within its range. Assumes nothing.
use Rattle.std.specs.Prelude.{ℕ, Bool, ◌&&◌, ℤ, int_le, nat_le}

abbrev pub from_to : ℕ → ℕ → ℕ → Bool
from_to low high n = nat_le low n && nat_le n high

abbrev pub signed_from_to : ℤ → ℤ → ℤ → Bool
signed_from_to low high z = int_le low z && int_le z high
