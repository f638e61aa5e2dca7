-- The value of a box column, over an image column of which only the number of black pixels is known. Assumes nothing.
use Rattle.std.specs.Prelude.{◌≡◌, ℕ, zero, suc, ◌+◌, ◌-◌, ◌<◌, ◌≤◌, min, ℤ, pos, ◌+ℤ◌, ◌*ℤ◌, ◌≤ℤ◌}
use Rattle.matching.specs.Counts.{sum, sum_signed, greatest}

-- what k l pixels of each of the first levels earn over black
abbrev pub gain : (ℕ → ℤ) → ℕ → (ℕ → ℕ) → ℤ
gain γ levels k = sum_signed levels (λ l. γ l *ℤ pos (k l))

-- a choice of how many of the n l pixels of each level lie over black: with `free` rows beside the pixels, of which any
-- may be black, they are `black` in all
pub record Choice (n : ℕ → ℕ) (levels free black : ℕ) (k : ℕ → ℕ) : Type 0 where
  pub few : (l : ℕ) → l < levels → k l ≤ n l
  pub not_over : sum levels k ≤ black
  pub not_under : black ≤ sum levels k + free

-- v is the greatest that a choice earns
pub record IsColumnValue (γ : ℕ → ℤ) (n : ℕ → ℕ) (levels free black : ℕ) (v : ℤ) : Type 0 where
  pub choice : ℕ → ℕ
  pub allowed : Choice n levels free black choice
  pub reached : gain γ levels choice ≡ v
  pub none_above : (k : ℕ → ℕ) → Choice n levels free black k → gain γ levels k ≤ℤ v

-- the fewest pixels of a level that lie over black, where `room` rows take the rest of the black ones; and how many more may
abbrev pub fewest : ℕ → ℕ → ℕ
fewest room black = black - room

abbrev pub spread : ℕ → ℕ → ℕ → ℕ
spread n room black = min n black - fewest room black

-- computed level by level: of the black pixels, k lie on the last level, and the others on free rows and earlier levels
unfoldable pub column_value : (ℕ → ℤ) → (ℕ → ℕ) → ℕ → ℕ → ℕ → ℤ
column_value γ n free zero black = pos 0
column_value γ n free (suc l) black =
    greatest (λ k. γ l *ℤ pos k +ℤ column_value γ n free l (black - k)) (fewest (free + sum l n) black) (spread (n l) (free + sum l n) black)
