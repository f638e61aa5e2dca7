use Rattle.std.proofs.Common.{sym, ◌∙◌, w64, SFits, rules}
use Rattle.std.proofs.lemmas.Int.{to_z-of_z}
use Rattle.face.specs.Fields.{levels, gamma}
use Rattle.printed.proofs.Laid.{laid_of}
use Rattle.matching.specs.Column.{gain}
use Rattle.matching.specs.Printed.{column_over_black}
use Rattle.matching.proofs.Lawful.{score_by_columns}
use Rattle.printed.specs.Gathered.{image_of}
use Rattle.printed.proofs.Strips.{over_small}
use Rattle.printed.proofs.printed_scorer.Standing.score.Goals as goal

pub over_columns-requires-clause-small : goal.over_columns-requires-clause-small
over_columns-requires-clause-small c =
    let self = c.args.self.now.node in
    let face = self.line.now.face.bytes.now in
    let image = image_of self.line.now.photo in
    let laid = laid_of self.line.now.face in
    (λ i. gain (gamma face) (levels face) (column_over_black face image self.x self.t c.args.s i), λ x r k. search rules, λ i h. over_small face laid self.t self.known image self.x c.args.s i h c.requires)

pub returns : goal.returns
returns c =
    let self = c.args.self.now.node in
    let face = self.line.now.face.bytes.now in
    let image = image_of self.line.now.photo in
    let fits : SFits w64 c.over_columns.result = search rules in
    to_z-of_z w64 c.over_columns.result fits
    ∙ c.over_columns.ensures (λ i. gain (gamma face) (levels face) (column_over_black face image self.x self.t c.args.s i)) (λ x r k. search rules)
    ∙ sym (score_by_columns face image self.x self.t c.args.s)
