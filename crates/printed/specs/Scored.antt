-- What the printed scorer is of: a face and a photograph. Assumes nothing.
use Rattle.std.specs.Prelude.{ℕ, List}
use Rattle.matching.specs.Printed.{printed_meaning}
use Rattle.photo.specs.declared.Photograph.{Photograph}
use Rattle.scorer.specs.Meaning.{Meaning}
use Rattle.printed.specs.Gathered.{image_of, width_of}

-- the line of a photograph under a face
abbrev pub line_meaning : List ℕ → Photograph → Meaning
line_meaning face photo = printed_meaning face (image_of photo) (width_of photo)
