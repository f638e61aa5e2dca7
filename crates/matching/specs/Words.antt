-- A column of pixels as a word, row 0 in the lowest bit. Assumes nothing.
use Rattle.std.specs.Prelude.{ℕ, zero, suc, ◌+◌, ◌*◌, ◌^◌, Bool}
use Rattle.matching.specs.Counts.{one_if}

-- the word of the first rows
unfoldable pub word_of : ℕ → (ℕ → Bool) → ℕ
word_of zero p = 0
word_of (suc n) p = one_if (p n) * 2 ^ n + word_of n p
