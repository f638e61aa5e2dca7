-- What the columns of a photograph hold. Assumes nothing.
use Rattle.std.specs.Prelude.{◌≡◌, ℕ, List, vec_items}
use Rattle.matching.specs.Printed.{Image, rows}
use Rattle.photo.specs.Pixels.{black_at}
use Rattle.photo.specs.Verdict.{header_of}
use Rattle.photo.specs.declared.Photograph.{Photograph}
use Rattle.printed.specs.Columns.{image_columns}
use Rattle.printed.specs.declared.image.Columns.{Columns}

abbrev pub image_of : Photograph → Image
image_of photo = black_at photo.bytes.now photo.rows

abbrev pub width_of : Photograph → ℕ
width_of photo = (header_of photo.bytes.now photo.rows).width

-- each column, in as many rows as a face needs
abbrev pub Gathered : List ℕ → Photograph → Columns → Type 0
Gathered face photo columns = vec_items columns.columns ≡ image_columns (image_of photo) (rows face) (width_of photo)
