use Rattle.std.proofs.Common.{◌≡◌}
use Rattle.printed.specs.Columns.{column_of}
use Rattle.printed.specs.Gathered.{image_of}
use Rattle.printed.proofs.image.Column.of.Given as goal

abbrev pub invariant-loop-y : goal.invariant-loop-y
invariant-loop-y l = l.column ≡ column_of (image_of l.photo) l.y l.x
