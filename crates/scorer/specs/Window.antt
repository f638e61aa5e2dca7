-- A window over a scorer: some of its columns, as a line of their own. Assumes nothing.
use Rattle.std.specs.Prelude.{ℕ, ◌+◌, Bool, cond, ◌&&◌, ℤ, nat_le}
use Rattle.refusal.specs.declared.Refusal.TheVariants.{WindowBeyond}
use Rattle.refusal.specs.First.{Verdict, ensure}
use Rattle.scorer.specs.Meaning.{Meaning}

-- some columns from a on lie on a line of so many
abbrev pub window_fits : ℕ → ℕ → ℕ → Bool
window_fits below a width = nat_le 1 width && nat_le (a + width) below

abbrev pub window_verdict : ℕ → ℕ → ℕ → Verdict
window_verdict below a width = ensure (window_fits below a width) (WindowBeyond a)

-- what is at column x of the window is at a + x below
abbrev pub windowed_by : {X : Type 0} → ℕ → (ℕ → ℕ → X) → ℕ → ℕ → X
windowed_by a value x t = value (a + x) t

abbrev pub windowed : Meaning → ℕ → ℕ → Meaning
windowed m a width =
    record { width = width; count = m.count; setwidth = m.setwidth; bound = windowed_by a m.bound; exact = windowed_by a m.exact }

-- the window where it fits; one that does not is the line below
abbrev pub window_meaning : Meaning → ℕ → ℕ → Meaning
window_meaning m a width = cond (window_fits m.width a width) (windowed m a width) m

-- the column below of column x
abbrev pub column_below : ℕ → ℕ → ℕ → ℕ → ℕ
column_below below a width x = cond (window_fits below a width) (a + x) x

abbrev pub shifts_below : ℕ → ℕ → ℕ → (ℕ → ℕ → ℤ) → ℕ → ℕ → ℤ
shifts_below below a width shifts x t = shifts (column_below below a width x) t
