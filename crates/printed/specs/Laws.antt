-- What the printed scores are, as laws over a face and an image. Assumes nothing.
use Rattle.std.specs.Prelude.{ℕ, ◌+◌, ◌<◌, ◌≤◌, List}
use Rattle.face.specs.Fields.{count, levels, gamma, box_width, columns_before}
use Rattle.matching.specs.Column.{IsColumnValue}
use Rattle.matching.specs.Counts.{IsGreatest, IsLowest, lowest}
use Rattle.matching.specs.Printed.{Image, rows, ink, free_rows, value_of, score_at, exact_score}

pub record PrintedScores (face : List ℕ) (image : Image) : Type 0 where
  -- the exact score is the greatest on rows 0 to 4, and the row of the shift is the lowest that reaches it
  pub exact : (x t : ℕ) → IsGreatest (score_at face image x t) 0 4 (exact_score face image x t)
  pub row : (x t : ℕ) → IsLowest (score_at face image x t) 4 (lowest (score_at face image x t) 4)
  -- the value of a box column is the greatest that a choice of pixels over black earns
  pub value : (t c black : ℕ) → t < count face → c < box_width face t → black ≤ rows face → IsColumnValue (gamma face) (ink face (columns_before face t + c)) (levels face) (free_rows face (columns_before face t + c)) black (value_of face (columns_before face t + c) black)
