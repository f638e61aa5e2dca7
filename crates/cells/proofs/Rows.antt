-- The rows of a line are few and short. Assumes nothing.
use Rattle.std.proofs.Common.{ℕ, ◌+◌, ◌*◌, ◌≤◌, arith}
use Rattle.std.proofs.lemmas.Nat.{mul-le}
use Rattle.cells.specs.Line.{templates}
use Rattle.cells.specs.declared.line.Line.{Line}

pub few_rows : (l : Line) (row : ℕ) → row ≤ templates l → (row + 1) * (l.width + 1) ≤ 65 * 2049
few_rows l row few = mul-le (row + 1) (l.width + 1) 65 2049 (omega (arith, l.counted.1)) (omega (arith, l.wide.1))
