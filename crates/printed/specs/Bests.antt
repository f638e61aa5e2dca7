-- The best row for a box. Assumes nothing.
use Rattle.std.specs.Prelude.{ℕ, List}
use Rattle.matching.specs.Counts.{lowest}
use Rattle.matching.specs.Printed.{Image, score_at, exact_score}
use Rattle.printed.specs.declared.best.Best.{Best}

-- the exact score, and the lowest row that reaches it
abbrev pub best_of : List ℕ → Image → ℕ → ℕ → Best
best_of face image x t = record { score = exact_score face image x t; row = lowest (score_at face image x t) 4 }
