-- The bound of the first template at the first column. Assumes nothing.
use Rattle.std.specs.Prelude.{◌≡◌, ℕ, ◌+◌, ◌⊎◌, List, ℤ, Ok, Err, Option, Result}
use Rattle.face.specs.Fields.{height}
use Rattle.matching.specs.Printed.{printed_meaning}
use Rattle.photo.specs.Pixels.{black_at}
use Rattle.photo.specs.Verdict.{photo_verdict, header_of}
use Rattle.refusal.specs.First.{after}
use Rattle.refusal.specs.declared.Refusal.{Refusal}
use Rattle.refusal.specs.declared.Refusal.TheVariants.{OutOfMemory}
use Rattle.scorer.specs.Meaning.{Meaning, at_node}

-- the line of a photograph under a face
abbrev pub line : List ℕ → List ℕ → Meaning
line face photo =
    printed_meaning face (black_at photo (height face + 4)) (header_of photo (height face + 4)).width

abbrev pub first_bound : List ℕ → List ℕ → Result (Option ℤ) Refusal
first_bound face photo =
    after (photo_verdict photo (height face + 4)) (λ _. Ok (at_node (line face photo) (line face photo).bound 0 0))

-- it is told, or memory is wanting
abbrev pub ToldBound : List ℕ → List ℕ → Result (Option ℤ) Refusal → Type 0
ToldBound face photo r = (r ≡ first_bound face photo) ⊎ (r ≡ Err OutOfMemory)
