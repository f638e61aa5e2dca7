-- Numbers in a list of bytes: low byte first, signed ones in two's complement. Assumes nothing.
use Rattle.std.specs.Prelude.{ℕ, ◌+◌, ◌*◌, cond, List, length, ℤ, nat_le, slice_index}
use Rattle.std.specs.Int.{w16, w32}
use Rattle.std.proofs.Common.{to_z}

-- the byte at i, 0 past the end
unfoldable pub byte_at : List ℕ → ℕ → ℕ
byte_at bs i = slice_index bs i

-- a number of the n bytes at i, 0 where the bytes end before it does
abbrev reaching : List ℕ → ℕ → ℕ → ℕ → ℕ
reaching bs i n value = cond (nat_le (i + n) (length bs)) value 0

unfoldable pub u16_at : List ℕ → ℕ → ℕ
u16_at bs i = reaching bs i 2 (slice_index bs i + slice_index bs (i + 1) * 256)

unfoldable pub u32_at : List ℕ → ℕ → ℕ
u32_at bs i =
    reaching bs i 4 (slice_index bs i + slice_index bs (i + 1) * 256 + slice_index bs (i + 2) * 65536 + slice_index bs (i + 3) * 16777216)

-- the number whose two's complement in 16 bits they are
abbrev pub i16_at : List ℕ → ℕ → ℤ
i16_at bs i = to_z w16 (u16_at bs i)

-- the number whose two's complement in 32 bits they are
abbrev pub i32_at : List ℕ → ℕ → ℤ
i32_at bs i = to_z w32 (u32_at bs i)
