use Rattle.std.proofs.Common.{◌+◌, ◌∙◌, w64, SFits, rules}
use Rattle.std.proofs.lemmas.Int.{to_z-of_z}
use Rattle.face.specs.Fields.{columns_before}
use Rattle.printed.proofs.Laid.{laid_of}
use Rattle.matching.specs.Printed.{value_of, black_count, bound_score}
use Rattle.printed.specs.Gathered.{image_of}
use Rattle.printed.proofs.Strips.{can_small}
use Rattle.printed.proofs.printed_scorer.Node.bound.Goals as goal

pub over_columns-requires-clause-small : goal.over_columns-requires-clause-small
over_columns-requires-clause-small c =
    let self = c.args.self.now in
    let face = self.line.now.face.bytes.now in
    let image = image_of self.line.now.photo in
    let laid = laid_of self.line.now.face in
    (λ i. value_of face (columns_before face self.t + i) (black_count face image (self.x + i)), λ x r k. search rules, λ i h. can_small face laid image self.x self.t i)

pub returns : goal.returns
unfolding bound_score
returns c =
    let self = c.args.self.now in
    let face = self.line.now.face.bytes.now in
    let image = image_of self.line.now.photo in
    let fits : SFits w64 c.over_columns.result = search rules in
    to_z-of_z w64 c.over_columns.result fits
    ∙ c.over_columns.ensures (λ i. value_of face (columns_before face self.t + i) (black_count face image (self.x + i))) (λ x r k. search rules)
