use Rattle.std.proofs.Common.{ℕ, Bool}
use Rattle.refusal.specs.First.{Tells}
use Rattle.refusal.proofs.First.{Sofar}
use Rattle.refusal.proofs.first_unlawful.Given as goal

abbrev pub invariant-loop-i : goal.invariant-loop-i
invariant-loop-i g l = (test : ℕ → Bool) → Tells l.n (goal.L-post g l.lawful) test → Sofar l.n test l.i
