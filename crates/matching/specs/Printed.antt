-- The scores of a template printed on an image. Assumes nothing.
use Rattle.std.specs.Prelude.{ℕ, ◌+◌, ◌-◌, Bool, ◌&&◌, List, ℤ, pos, ◌+ℤ◌, ◌*ℤ◌, neg_ℤ}
use Rattle.octets.specs.Bits.{has_bit}
use Rattle.face.specs.Fields.{count, levels, height, gamma, beta, setwidth, box_width, prior, columns_before}
use Rattle.face.specs.Laid.{column_word}
use Rattle.scorer.specs.Meaning.{Meaning}
use Rattle.matching.specs.Column.{column_value}
use Rattle.matching.specs.Counts.{sum, sum_signed, count_of, greatest, lowest}

-- an image: whether column x of row y is black
abbrev pub Image : Type 0
Image = ℕ → ℕ → Bool

module _ (face : List ℕ) where
  -- whether level l has a pixel in row i of a column, where columns are counted over all templates; and how many it has there
  abbrev pub column_pixel : ℕ → ℕ → ℕ → Bool
  column_pixel column l i = has_bit (column_word face column l) i

  abbrev pub ink : ℕ → ℕ → ℕ
  ink column l = count_of (height face) (column_pixel column l)

  -- the same of column c of a template's box, and how many pixels it has in all columns of the box
  abbrev pub pixel : ℕ → ℕ → ℕ → ℕ → Bool
  pixel t c l i = column_pixel (columns_before face t + c) l i

  abbrev pub column_pixels : ℕ → ℕ → ℕ → ℕ
  column_pixels t c l = ink (columns_before face t + c) l

  abbrev pub pixels : ℕ → ℕ → ℕ
  pixels t l = sum (box_width face t) (λ c. column_pixels t c l)

  -- the rows of an image: four more than a box has
  abbrev pub rows : ℕ
  rows = height face + 4

  -- what a template earns wherever it stands
  abbrev pub base : ℕ → ℤ
  base t = prior face t +ℤ sum_signed (levels face) (λ l. beta face l *ℤ pos (pixels t l))

  -- the rows of an image column on which no pixel of a box column lies
  abbrev pub free_rows : ℕ → ℕ
  free_rows column = rows - sum (levels face) (ink column)

  -- what a box column can earn at most over an image column with so many black pixels
  unfoldable pub value_of : ℕ → ℕ → ℤ
  value_of column black = column_value (gamma face) (ink column) (free_rows column) (levels face) black

  module _ (image : Image) where
    -- how many pixels of a level lie over black, where the box begins at column x and its row 0 lies on row s
    abbrev pub column_over_black : ℕ → ℕ → ℕ → ℕ → ℕ → ℕ
    column_over_black x t s c l = count_of (height face) (λ i. pixel t c l i && image (x + c) (i + s))

    abbrev pub over_black : ℕ → ℕ → ℕ → ℕ → ℕ
    over_black x t s l = sum (box_width face t) (λ c. column_over_black x t s c l)

    -- the score there
    unfoldable pub score_at : ℕ → ℕ → ℕ → ℤ
    score_at x t s = base t +ℤ sum_signed (levels face) (λ l. gamma face l *ℤ pos (over_black x t s l))

    -- the box may lie two rows higher or lower than the middle: its row 0 lies on row 0 to 4
    unfoldable pub exact_score : ℕ → ℕ → ℤ
    exact_score x t = greatest (score_at x t) 0 4

    -- the shift is how far below the middle the highest such box lies that reaches the exact score
    abbrev pub shift_of : ℕ → ℕ → ℤ
    shift_of x t = pos (lowest (score_at x t) 4) +ℤ neg_ℤ (pos 2)

    -- how many pixels of an image column are black
    abbrev pub black_count : ℕ → ℕ
    black_count x = count_of rows (image x)

    -- each box column earns at most its value
    unfoldable pub bound_score : ℕ → ℕ → ℤ
    bound_score x t =
        base t +ℤ sum_signed (box_width face t) (λ c. value_of (columns_before face t + c) (black_count (x + c)))

    -- the line of that image, so many columns wide
    abbrev pub printed_meaning : ℕ → Meaning
    printed_meaning width =
        record { width = width; count = count face; setwidth = setwidth face; bound = bound_score; exact = exact_score }
