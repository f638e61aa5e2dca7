-- The values of a box column for each number of black pixels, as a table keeps them. Assumes nothing.
use Rattle.std.specs.Prelude.{ℕ, ◌-◌, ◌^◌, ◌<◌, List, map, ℤ, pos, ◌+ℤ◌, ◌*ℤ◌, slice_index_or}
use Rattle.std.specs.List.{range_with_len}
use Rattle.matching.specs.Column.{fewest, spread}
use Rattle.matching.specs.Counts.{greatest}
use Rattle.matching.proofs.Ranges.{Within}

-- a table for 0 to 36 black pixels
unfoldable pub table_of : (ℕ → ℤ) → List ℤ
table_of f = map f (range_with_len 0 37)

-- k black pixels lie on the last level, and the others on what the table so far is of
abbrev pub with_level : List ℤ → ℤ → ℕ → ℕ → ℤ
with_level table weight black k = weight *ℤ pos k +ℤ slice_index_or table (black - k) (pos 0)

abbrev pub best_with_level : List ℤ → ℤ → ℕ → ℕ → ℕ → ℤ
best_with_level table weight count room black =
    greatest (with_level table weight black) (fewest room black) (spread count room black)

-- the table with one level more
abbrev pub laid_on : List ℤ → ℤ → ℕ → ℕ → List ℤ
laid_on table weight count room = table_of (best_with_level table weight count room)

-- no entry is so large that a sum of four could overflow
abbrev pub Small : List ℤ → Type 0
Small table = (k : ℕ) → k < 37 → Within (2 ^ 40) (slice_index_or table k (pos 0))
