-- The pixels of a photograph: rows from the top, in each byte the highest bit leftmost. Assumes nothing.
use Rattle.std.specs.Prelude.{◌≡◌, ℕ, ◌+◌, ◌-◌, ◌*◌, ◌/◌, ◌%◌, ◌^◌, ◌<◌, Bool, ◌&&◌, List, nat_lt}
use Rattle.octets.specs.Bits.{has_bit}
use Rattle.octets.specs.Numbers.{byte_at}
use Rattle.photo.specs.declared.scan.Header.{Header}
use Rattle.photo.specs.Verdict.{stride, header_of}

-- byte k of row y
abbrev pub raster_byte : List ℕ → Header → ℕ → ℕ → ℕ
raster_byte photo h y k = byte_at photo (h.raster + y * stride h.width + k)

-- whether column x of row y is black; beyond the photograph nothing is
abbrev pub black_in : List ℕ → ℕ → Header → ℕ → ℕ → Bool
black_in photo rows h x y =
    nat_lt x h.width && nat_lt y rows && has_bit (raster_byte photo h y (x / 8)) (7 - x % 8)

abbrev pub black_at : List ℕ → ℕ → ℕ → ℕ → Bool
black_at photo rows x y = black_in photo rows (header_of photo rows) x y

-- how many of the lowest bits of byte k in a row of width w are padding
abbrev pub padding : ℕ → ℕ → ℕ
padding w k = 8 * (k + 1) - w

-- the photographs differ in padding bits at most
pub record PaddedAlike (rows : ℕ) (a b : List ℕ) : Type 0 where
  pub same_header : header_of a rows ≡ header_of b rows
  pub same_pixels : (y k : ℕ) → y < rows → k < stride (header_of a rows).width → raster_byte a (header_of a rows) y k / 2 ^ padding (header_of a rows).width k ≡ raster_byte b (header_of a rows) y k / 2 ^ padding (header_of a rows).width k
