use Rattle.std.proofs.Common.{◌≡◌, ◌+◌, ◌*◌, ◌≤◌}
use Rattle.face.specs.Fields.{gamma}
use Rattle.matching.specs.Column.{column_value}
use Rattle.matching.specs.Counts.{sum}
use Rattle.matching.specs.Printed.{ink, free_rows}
use Rattle.printed.specs.Values.{table_of}
use Rattle.printed.proofs.strip.Strip.values.Given as goal

abbrev pub invariant-loop-l : goal.invariant-loop-l
invariant-loop-l l =
    let face = l.self.weighed.face.bytes.now in
    let column = l.self.first + l.c in
    (l.room ≡ free_rows face column + sum l.l (ink face column)) × (l.room ≤ 36 + 64 * l.l)
    × (l.table ≡ table_of (column_value (gamma face) (ink face column) (free_rows face column) l.l))
