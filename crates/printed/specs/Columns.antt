-- The columns of an image, each as a word and with how many of its pixels are black; and what is told of columns. Assumes nothing.
use Rattle.std.specs.Prelude.{◌≡◌, ℕ, ℤ, List, map}
use Rattle.std.specs.List.{range_with_len}
use Rattle.matching.specs.Counts.{count_of}
use Rattle.matching.specs.Printed.{Image}
use Rattle.matching.specs.Words.{word_of}
use Rattle.printed.specs.declared.image.Column.{Column}

-- the first rows of column x
abbrev pub column_of : Image → ℕ → ℕ → Column
column_of image rows x = record { word = word_of rows (image x); black = count_of rows (image x) }

abbrev pub image_columns : Image → ℕ → ℕ → List Column
image_columns image rows width = map (column_of image rows) (range_with_len 0 width)

-- what is answered of any column is what a function tells
abbrev pub Computes : (ℕ → ℤ → Type 0) → (ℕ → ℤ) → Type 0
Computes answers f = (c : ℕ) (z : ℤ) → answers c z → z ≡ f c
