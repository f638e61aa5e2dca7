-- What a scorer stands for, and what its questions answer. Assumes nothing.
use Rattle.std.specs.Prelude.{◌≡◌, ℕ, ◌+◌, ◌<◌, ◌≤◌, Bool, true, ◌&&◌, ℤ, pos, neg_ℤ, ◌≤ℤ◌, Option, nat_le, nat_lt}
use Rattle.octets.specs.Absent.{present}

-- one line: its columns, its templates with their setwidths, and two scores by column and template
pub record Meaning : Type 0 where
  pub width : ℕ
  pub count : ℕ
  pub setwidth : ℕ → ℕ
  pub bound : ℕ → ℕ → ℤ
  pub exact : ℕ → ℕ → ℤ

abbrev pub is_template : Meaning → ℕ → Bool
is_template m t = nat_lt t m.count

-- column x and template t are a node: the template ends on the line
abbrev pub is_node : Meaning → ℕ → ℕ → Bool
is_node m x t = is_template m t && nat_le (x + m.setwidth t) m.width

abbrev pub Node : Meaning → ℕ → ℕ → Type 0
Node m x t = is_node m x t ≡ true

-- what a question answers: the value at a template or a node, and absent elsewhere
abbrev pub setwidth_answer : Meaning → ℕ → Option ℕ
setwidth_answer m t = present (is_template m t) (m.setwidth t)

abbrev pub at_node : Meaning → (ℕ → ℕ → ℤ) → ℕ → ℕ → Option ℤ
at_node m value x t = present (is_node m x t) (value x t)

-- the range of a score
abbrev pub least_score : ℤ
least_score = neg_ℤ (pos 4000000)

abbrev pub greatest_score : ℤ
greatest_score = pos 4000000

abbrev pub ScoreWithin : ℤ → Type 0
ScoreWithin z = (least_score ≤ℤ z) × (z ≤ℤ greatest_score)

pub record ScoresLawful (exact bound : ℤ) : Type 0 where
  pub exact_within : ScoreWithin exact
  pub bound_within : ScoreWithin bound
  pub not_above : exact ≤ℤ bound

pub record Lawful (m : Meaning) : Type 0 where
  pub wide : (1 ≤ m.width) × (m.width ≤ 2048)
  pub counted : (1 ≤ m.count) × (m.count ≤ 64)
  pub set : (t : ℕ) → t < m.count → (1 ≤ m.setwidth t) × (m.setwidth t ≤ 64)
  pub scored : (x t : ℕ) → Node m x t → ScoresLawful (m.exact x t) (m.bound x t)

-- a shift is from −2 to 2
abbrev pub ShiftWithin : ℤ → Type 0
ShiftWithin v = (neg_ℤ (pos 2) ≤ℤ v) × (v ≤ℤ pos 2)
