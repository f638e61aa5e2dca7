-- Worked examples: what the definitions say of small cases, in one statement. Assumes nothing.
use Rattle.std.specs.Prelude.{◌≡◌, ℕ, ◌+◌, ◌-◌, cond, List, [], ◌∷◌, ℤ, pos, neg_ℤ, Some, None, Ok, Err, ◌==◌}
use Rattle.face.specs.Verdict.{face_verdict}
use Rattle.matching.specs.Column.{column_value}
use Rattle.matching.specs.Printed.{value_of}
use Rattle.refusal.specs.Told.{told}
use Rattle.refusal.specs.declared.Refusal.TheVariants.{WindowBeyond}
use Rattle.scorer.specs.Window.{window_verdict}

-- a level that earns 3 over black and one that earns −2, one pixel of each, in a box of two rows over an image of six
abbrev pub value_over : ℕ → ℤ
value_over black = column_value (λ l. cond (l == 0) (pos 3) (neg_ℤ (pos 2))) (λ _. 1) (2 + 4 - 2) 2 black

-- the bytes of a face with these two levels, and one template whose box is this column
abbrev pub two_level_face : List ℕ
two_level_face =
    1 ∷ 0 ∷ 2 ∷ 2 ∷ 3 ∷ 0 ∷ 0 ∷ 0 ∷ 254 ∷ 255 ∷ 0 ∷ 0 ∷ 33 ∷ 1 ∷ 1 ∷ 0 ∷ 0 ∷ 0 ∷ 0 ∷ 0 ∷ 1 ∷ 0 ∷ 0 ∷ 0 ∷ 2 ∷ 0 ∷ 0 ∷ 0 ∷ []

-- five black pixels still leave the second level's row white, and six do not
pub record ColumnValues (value : ℕ → ℤ) : Type 0 where
  pub none_black : value 0 ≡ pos 0
  pub one_black : value 1 ≡ pos 3
  pub four_black : value 4 ≡ pos 3
  pub five_black : value 5 ≡ pos 3
  pub six_black : value 6 ≡ pos 1

-- over three columns, a window from column 1 has room for two and not for three
pub record Windows : Type 0 where
  pub two_taken : window_verdict 3 1 2 ≡ Ok tt
  pub three_refused : window_verdict 3 1 3 ≡ Err (WindowBeyond 1)
  pub refusal_told : told (WindowBeyond 1) ≡ record { number = Some 41; place = 1; template = None }

pub record WorkedExamples : Type 0 where
  pub column_values : ColumnValues value_over
  pub face_taken : face_verdict two_level_face ≡ Ok tt
  pub face_values : ColumnValues (value_of two_level_face 0)
  pub windows : Windows
