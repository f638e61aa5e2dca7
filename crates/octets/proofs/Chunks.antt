-- The bytes of a number, as a part of those of a file. Assumes nothing.
use Rattle.std.proofs.Common.{◌≡◌, ℕ, ◌+◌, ◌<◌, List, slice_index, arith}
use Rattle.std.proofs.lemmas.List.Edits.{get_or-between}
use Rattle.std.specs.List.{between}

pub chunk_index : (bytes : List ℕ) (at n i : ℕ) → i < n → slice_index (between at (at + n) bytes) i ≡ slice_index bytes (at + i)
chunk_index bytes at n i h = get_or-between bytes at (at + n) i 0 (omega arith)
