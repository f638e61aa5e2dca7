-- What is worked out of a face before any question. Assumes nothing.
use Rattle.std.specs.Prelude.{ℕ, ◌+◌, List, map, ℤ, pos, ◌*ℤ◌, bit_and, count_ones}
use Rattle.std.specs.List.{range_with_len, between}
use Rattle.face.specs.Fields.{count, levels, gamma, beta, columns_before, column_start}
use Rattle.face.specs.Laid.{column_word}
use Rattle.matching.specs.Column.{gain}
use Rattle.matching.specs.Counts.{sum, sum_signed}
use Rattle.matching.specs.Printed.{ink, value_of}
use Rattle.printed.specs.Values.{table_of}

module _ (face : List ℕ) where
  -- what a pixel of each level earns over black
  abbrev pub weights_of : List ℤ
  weights_of = map (gamma face) (range_with_len 0 (levels face))

  -- what a column can earn, for each number of black pixels
  abbrev pub values_of : ℕ → List ℤ
  values_of column = table_of (value_of face column)

  abbrev pub strip_values : ℕ → ℕ → List (List ℤ)
  strip_values first width = map (λ c. values_of (first + c)) (range_with_len 0 width)

  abbrev pub face_values : List (List ℤ)
  face_values = map values_of (range_with_len 0 (columns_before face (count face)))

  -- what a column earns over a word of the image
  abbrev pub column_gain : ℕ → ℕ → ℤ
  column_gain column word = gain (gamma face) (levels face) (λ l. count_ones (bit_and (column_word face column l) word))

  -- the columns from `first` on, so many: as they lie in the face's own bytes, how many pixels a level has there, and what
  -- the pixels earn wherever they lie
  abbrev pub strip_words : ℕ → ℕ → List ℕ
  strip_words first width = between (column_start face first) (column_start face (first + width)) face

  abbrev pub strip_pixels : ℕ → ℕ → ℕ → ℕ
  strip_pixels first width l = sum width (λ c. ink face (first + c) l)

  abbrev pub strip_worth : ℕ → ℕ → ℤ
  strip_worth first width = sum_signed (levels face) (λ l. beta face l *ℤ pos (strip_pixels first width l))
