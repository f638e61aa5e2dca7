use Rattle.std.proofs.Common.{refl}
use Rattle.octets.specs.Numbers.{byte_at, u16_at, u32_at}
use Rattle.face.specs.Fields.{columns_before}
use Rattle.face.specs.Verdict.{face_verdict}
use Rattle.matching.specs.Column.{column_value}
use Rattle.matching.specs.Counts.{sum, greatest}
use Rattle.matching.specs.Printed.{value_of}
use Rattle.refusal.specs.First.{first_failing}
use Rattle.examples.proofs.worked_examples.Goals as goal

pub returns : goal.returns
unfolding byte_at u16_at u32_at columns_before face_verdict column_value sum greatest value_of first_failing
returns c = record {
  column_values = record { none_black = refl; one_black = refl; four_black = refl; five_black = refl; six_black = refl };
  face_taken = refl;
  face_values = record { none_black = refl; one_black = refl; four_black = refl; five_black = refl; six_black = refl };
  windows = record { two_taken = refl; three_refused = refl; refusal_told = refl };
}
