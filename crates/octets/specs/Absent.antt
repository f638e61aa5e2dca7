-- What a question answers that may be asked of what is not there. Assumes nothing.
use Rattle.std.specs.Prelude.{Bool, cond, Some, None, Option}

-- the value where it is there, else absent
abbrev pub present : {X : Type 0} → Bool → X → Option X
present there x = cond there (Some x) None
