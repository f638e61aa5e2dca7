-- The line of a photograph under a face is lawful. Assumes nothing.
use Rattle.std.specs.Prelude.{◌≡◌, ℕ, true, List, is_ok}
use Rattle.face.specs.Verdict.{face_verdict}
use Rattle.face.proofs.Exact.{laid_from_is_ok}
use Rattle.matching.proofs.Lawful.{printed_lawful}
use Rattle.photo.specs.declared.Photograph.{Photograph}
use Rattle.photo.proofs.Exact.{laid_from_is_ok as photo_laid}
use Rattle.scorer.specs.Meaning.{Lawful}
use Rattle.printed.specs.Gathered.{image_of, width_of}
use Rattle.printed.specs.Scored.{line_meaning}

pub line_lawful : (face : List ℕ) (photo : Photograph) → is_ok (face_verdict face) ≡ true → Lawful (line_meaning face photo)
line_lawful face photo ok =
    let within = (photo_laid photo.bytes.now photo.rows photo.lawful).width_within in
    printed_lawful face (image_of photo) (width_of photo) (laid_from_is_ok face ok) within.0 within.1
