use Rattle.std.proofs.Common.{◌≡◌, take}
use Rattle.photo.specs.Header.{decimal}
use Rattle.photo.proofs.scan.decimal_of.Given as goal

abbrev pub invariant-loop-d : goal.invariant-loop-d
invariant-loop-d l = l.value ≡ decimal (take l.d-index l.digits)
