-- What is listed of a face and a photograph. Assumes nothing.
use Rattle.std.specs.Prelude.{◌≡◌, ℕ, ◌+◌, true, ◌⊎◌, List, is_ok, Ok, Err, Result}
use Rattle.face.specs.Fields.{count, height}
use Rattle.face.specs.Verdict.{face_verdict}
use Rattle.photo.specs.Verdict.{photo_verdict}
use Rattle.refusal.specs.First.{after}
use Rattle.refusal.specs.declared.Refusal.{Refusal}
use Rattle.refusal.specs.declared.Refusal.TheVariants.{OutOfMemory}
use Rattle.listing.specs.declared.line.Line.{Line}

-- the face is judged first, then the photograph, which has four rows more than a box
abbrev pub line_answer : List ℕ → List ℕ → Result Line Refusal
line_answer face photo =
    after (face_verdict face) (λ _.
    after (photo_verdict photo (height face + 4)) (λ h.
    Ok (record { width = h.width; count = count face })))

-- an answer, or want of memory, which hides no refusal
abbrev pub Answers : Result Line Refusal → Result Line Refusal → Type 0
Answers answer r = (r ≡ answer) ⊎ ((r ≡ Err OutOfMemory) × (is_ok answer ≡ true))
