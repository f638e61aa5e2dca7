-- The bits of a number, counted from the lowest. Assumes nothing.
use Rattle.std.specs.Prelude.{◌≡◌, ℕ, ◌/◌, ◌%◌, ◌^◌, Bool, ◌==◌}

-- bit i of n is set; and the same as a test
abbrev pub Bit : ℕ → ℕ → Type 0
Bit n i = n / 2 ^ i % 2 ≡ 1

abbrev pub has_bit : ℕ → ℕ → Bool
has_bit n i = n / 2 ^ i % 2 == 1
