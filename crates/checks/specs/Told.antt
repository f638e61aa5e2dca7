-- What a check's answer tells: the number and the place of what it refuses. Assumes nothing.
use Rattle.std.specs.Prelude.{ℕ, Some, None, Ok, Err, Option, Result}
use Rattle.std.specs.Option.{option_map}
use Rattle.refusal.specs.Told.{told}
use Rattle.refusal.specs.declared.Refusal.{Refusal}

-- nothing where nothing is refused, and else the refusal's number and place; want of memory has no number, and tells nothing
abbrev pub refused_at : {T : Type 0} → Result T Refusal → Option (Option (ℕ × ℕ))
refused_at (Ok x) = Some None
refused_at (Err e) = option_map (λ number. Some (number, (told e).place)) (told e).number
