use Rattle.std.proofs.Common.{◌≡◌, ◌+◌, ◌/◌, ◌^◌, ap, ◌∙◌, arith, w64, SFits, rules}
use Rattle.std.proofs.lemmas.Int.{to_z-of_z}
use Rattle.face.specs.Fields.{columns_before}
use Rattle.printed.proofs.Laid.{laid_of}
use Rattle.printed.specs.Gathered.{image_of}
use Rattle.printed.specs.Tables.{column_gain}
use Rattle.printed.proofs.Strips.{over_is}
use Rattle.printed.proofs.printed_scorer.Standing.gain.Goals as goal

pub overflow_add-self : goal.overflow_add-self
overflow_add-self c =
    let self = c.args.self.now.node in
    let face = self.line.now.face in
    let laid = laid_of face in
    omega (arith, self.low, c.requires.0, (laid.templates_laid self.t self.known).boxed)

pub returns : goal.returns
returns c =
    let self = c.args.self.now in
    let node = self.node in
    let face = node.line.now.face.bytes.now in
    let laid = laid_of node.line.now.face in
    let image = image_of node.line.now.photo in
    let fits : SFits w64 c.column_gain.result = search rules in
    let first : self.strip.first ≡ columns_before face node.t = self.begins ∙ ap (λ p. p.first) node.laid in
    to_z-of_z w64 c.column_gain.result fits ∙ c.column_gain.ensures
    ∙ (λ i. column_gain (self.faced i).bytes.now (first i + c.args.c) ((c.column-column.ensures i).word / 2 ^ c.args.s))
    ∙ over_is face laid node.t node.known image node.x c.args.s c.args.c c.requires.0 c.requires.1
