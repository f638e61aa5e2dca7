-- The cells after a sweep. Assumes nothing.
use Rattle.std.specs.Prelude.{ℕ, zero, suc, ◌+◌, ◌≤◌, List, ℤ}
use Rattle.cells.specs.Layout.{with_place, place_cell, score_in}
use Rattle.cells.specs.Line.{widths}
use Rattle.cells.specs.declared.cell.Cell.{Cell}
use Rattle.cells.specs.declared.line.Line.{Line}
use Rattle.paths.specs.Combining.{Rule}
use Rattle.paths.specs.Sweep.{brings, work, work_last, place_value, place_last, Joins}

-- the value that the cell of each place holds
abbrev pub values_in : {X : Type 0} → (Cell → X) → Line → List Cell → ℕ → X
values_in held l cells p = held (place_cell l cells p)

-- what a template brings to a place, what working the place gives it, and the last template that changed that
abbrev pub brought : {X : Type 0} → Rule X → (Cell → X) → Line → List Cell → ℕ → ℕ → X
brought r held l cells p t = brings r (widths l) (score_in l cells) (values_in held l cells) p t

abbrev pub worked : {X : Type 0} → Rule X → (Cell → X) → Line → List Cell → ℕ → X
worked r held l cells p = work r (widths l) (score_in l cells) (values_in held l cells) p

abbrev pub worked_last : {X : Type 0} → Rule X → (Cell → X) → Line → List Cell → ℕ → ℕ
worked_last r held l cells p = work_last r (widths l) (score_in l cells) (values_in held l cells) p

-- the cells after one place was worked
abbrev pub worked_cells : {X : Type 0} → Rule X → (Cell → X) → (X → ℕ → Cell) → Line → List Cell → ℕ → List Cell
worked_cells r held stored l cells p =
    with_place l cells p (stored (worked r held l cells p) (worked_last r held l cells p))

-- the cell of a place after a sweep
abbrev pub swept_cell : {X : Type 0} → Rule X → (X → ℕ → Cell) → List ℕ → (ℕ → ℕ → ℤ) → ℕ → Cell
swept_cell r stored ds score zero = stored r.start 0
swept_cell r stored ds score (suc p) = stored (place_value r ds score (suc p)) (place_last r ds score (suc p))

-- the cells after a sweep of the first n places, and of all
unfoldable pub swept_to : {X : Type 0} → Rule X → (X → ℕ → Cell) → Line → List Cell → ℕ → List Cell
swept_to r stored l cells zero = cells
swept_to r stored l cells (suc n) =
    with_place l (swept_to r stored l cells n) n (swept_cell r stored (widths l) (score_in l cells) n)

abbrev pub swept : {X : Type 0} → Rule X → (X → ℕ → Cell) → Line → List Cell → List Cell
swept r stored l cells = swept_to r stored l cells (l.width + 1)

-- the cells after the next place was swept: place 0 gets the start, and any other is worked
abbrev pub swept_on : {X : Type 0} → Rule X → (Cell → X) → (X → ℕ → Cell) → Line → List Cell → ℕ → List Cell
swept_on r held stored l cells zero = with_place l cells 0 (stored r.start 0)
swept_on r held stored l cells (suc p) = worked_cells r held stored l cells (suc p)

-- a sweep gives each place the join over all paths that lead there
abbrev pub SweepJoins : {X : Type 0} → Rule X → (Cell → X) → (X → ℕ → Cell) → Line → List Cell → Type 0
SweepJoins r held stored l cells =
    (p : ℕ) → p ≤ l.width → Joins r (widths l) (score_in l cells) p (values_in held l (swept r stored l cells) p)
