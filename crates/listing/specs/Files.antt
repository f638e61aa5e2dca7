-- What a listing of files can tell, whatever they hold. Assumes nothing.
use Rattle.std.specs.Prelude.{◌≡◌, ℕ, ◌≤◌, ◌⊎◌, List, length, Ok, Err, Result}
use Rattle.face.specs.Verdict.{face_verdict}
use Rattle.refusal.specs.declared.Refusal.{Refusal}
use Rattle.refusal.specs.declared.Refusal.TheVariants.{FaceUnreadable, PhotographUnreadable, OutOfMemory}
use Rattle.listing.specs.Answer.{line_answer, Answers}
use Rattle.listing.specs.declared.line.Line.{Line}

-- what a file that cannot be read is told as: its refusal, or want of memory
abbrev pub Unread : Refusal → Refusal → Type 0
Unread unreadable e = (e ≡ unreadable) ⊎ (e ≡ OutOfMemory)

-- some bytes that are a face
pub record Opened : Type 0 where
  pub face : List ℕ
  pub few : length face ≤ 65537
  pub accepted : face_verdict face ≡ Ok tt

-- the answer to some bytes of a face and a photograph
pub record Answered (r : Result Line Refusal) : Type 0 where
  pub face : List ℕ
  pub photo : List ℕ
  pub few_of_face : length face ≤ 65537
  pub few_of_photo : length photo ≤ 16385
  pub told : Answers (line_answer face photo) r

-- a line is that of some bytes; a refusal is that of some bytes, or of a file that cannot be read, and the
-- photograph's file is not refused before a face was opened
abbrev pub Told : Result Line Refusal → Type 0
Told (Ok line) = Answered (Ok line)
Told (Err e) = Answered (Err e) ⊎ (Unread FaceUnreadable e ⊎ (Opened × (e ≡ PhotographUnreadable)))
