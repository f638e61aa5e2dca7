-- How a place's cell holds a value with its last template, and what value it holds. Assumes nothing.
use Rattle.std.specs.Prelude.{◌≡◌, ℕ, Bool, false, ℤ, pos, Some, None, Option, refl}
use Rattle.cells.specs.Blank.{of_place, total_in}
use Rattle.cells.specs.declared.cell.Cell.{Cell}

-- yes or no
abbrev pub held_answer : Cell → Bool
held_answer c = c.marked

abbrev pub stored_answer : Bool → ℕ → Cell
stored_answer b last = record { score = pos 0; marked = b; fresh = false; template = last; stop = 0 }

pub answer_kept : (b : Bool) (last : ℕ) → held_answer (stored_answer b last) ≡ b
answer_kept b last = refl

-- a total, or nothing
abbrev pub held_total : Cell → Option ℤ
held_total c = total_in c

abbrev pub stored_total : Option ℤ → ℕ → Cell
stored_total v last = of_place v last

pub total_kept : (v : Option ℤ) (last : ℕ) → held_total (stored_total v last) ≡ v
total_kept None last = refl
total_kept (Some z) last = refl
