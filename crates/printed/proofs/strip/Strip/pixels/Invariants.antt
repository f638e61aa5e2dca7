use Rattle.std.proofs.Common.{◌≡◌, ◌+◌, ◌*◌, ◌≤◌}
use Rattle.matching.specs.Counts.{sum}
use Rattle.matching.specs.Printed.{ink}
use Rattle.printed.proofs.strip.Strip.pixels.Given as goal

abbrev pub invariant-loop-c : goal.invariant-loop-c
invariant-loop-c l =
    (l.pixels ≡ sum l.c (λ i. ink l.self.weighed.face.bytes.now (l.self.first + i) l.l)) × (l.pixels ≤ 64 * l.c)
