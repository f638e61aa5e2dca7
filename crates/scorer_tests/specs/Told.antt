-- What the tests hold a scorer to. Assumes nothing.
use Rattle.std.specs.Prelude.{◌≡◌, ℕ, ◌+◌}
use Rattle.scorer.specs.Meaning.{Meaning, at_node}

-- so many columns, and so many templates
pub record Measured (m : Meaning) (width count : ℕ) : Type 0 where
  pub wide : m.width ≡ width
  pub counted : m.count ≡ count

-- a column and a template of one line have the answers of another, `first` columns further on
pub record Alike (window below : Meaning) (first x t : ℕ) : Type 0 where
  pub bound : at_node window window.bound x t ≡ at_node below below.bound (first + x) t
  pub exact : at_node window window.exact x t ≡ at_node below below.exact (first + x) t
