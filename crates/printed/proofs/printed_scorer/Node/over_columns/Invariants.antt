use Rattle.std.proofs.Common.{◌≡◌, ℕ, ℤ, ◌+ℤ◌}
use Rattle.matching.specs.Counts.{sum_signed}
use Rattle.matching.specs.Printed.{base}
use Rattle.printed.specs.Columns.{Computes}
use Rattle.printed.proofs.printed_scorer.Node.over_columns.Given as goal

abbrev pub invariant-loop-c : goal.invariant-loop-c
invariant-loop-c g l =
    (f : ℕ → ℤ) → Computes (goal.G-post g l.gain) f → l.score ≡ base l.self.line.now.face.bytes.now l.self.t +ℤ sum_signed l.c f
