-- What is listed, in words: a face, a photograph that fits it, and the numbers that both tell. Assumes nothing.
use Rattle.std.specs.Prelude.{◌≡◌, ℕ, ◌+◌, ◌⊎◌, List, Ok, Err, Result}
use Rattle.face.specs.Fields.{count, height}
use Rattle.face.specs.Laid.{FaceLaid}
use Rattle.photo.specs.Laid.{PhotographLaid}
use Rattle.photo.specs.declared.scan.Header.{Header}
use Rattle.refusal.specs.declared.Refusal.{Refusal}
use Rattle.refusal.specs.declared.Refusal.TheVariants.{OutOfMemory}
use Rattle.listing.specs.declared.line.Line.{Line}

pub record Listed (face photo : List ℕ) (line : Line) : Type 0 where
  pub header : Header
  pub is_face : FaceLaid face
  pub is_photograph : PhotographLaid photo (height face + 4) header
  pub wide : line.width ≡ header.width
  pub counted : line.count ≡ count face

-- a line is told exactly if it is listed so, as far as memory reaches
pub record ListsExactly (face photo : List ℕ) (answer : Result Line Refusal) : Type 0 where
  pub sound : (line : Line) → answer ≡ Ok line → Listed face photo line
  pub complete : (line : Line) → Listed face photo line → (answer ≡ Ok line) ⊎ (answer ≡ Err OutOfMemory)
