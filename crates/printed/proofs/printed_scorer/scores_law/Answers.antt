use Rattle.printed.proofs.Laid.{laid_of}
use Rattle.matching.specs.Printed.{score_at, exact_score}
use Rattle.matching.proofs.Lawful.{column_value_of}
use Rattle.matching.proofs.Sums.{greatest_is, lowest_is}
use Rattle.printed.specs.Gathered.{image_of}
use Rattle.printed.proofs.printed_scorer.scores_law.Goals as goal

pub returns : goal.returns
unfolding exact_score
returns c =
    let face = c.args.face.now in
    let image = image_of c.args.photo.now in
    let laid = laid_of face in
    record {
      exact = λ x t. greatest_is (score_at face.bytes.now image x t) 0 4;
      row = λ x t. lowest_is (score_at face.bytes.now image x t) 4;
      value = λ t k black there within few. column_value_of face.bytes.now laid t there k black within few;
    }
