-- A row of pseudo-random numbers. Assumes nothing.
use Rattle.std.specs.Prelude.{ℕ, ◌+◌, ◌*◌, ◌%◌, ◌^◌}

-- the number that follows one
abbrev pub follower : ℕ → ℕ
follower number = (1664525 * number + 1013904223) % 2 ^ 32
