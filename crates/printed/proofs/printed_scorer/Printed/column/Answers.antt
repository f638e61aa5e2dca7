use Rattle.std.proofs.Common.{◌≡◌, get_or, ap, ◌∙◌, rules}
use Rattle.std.specs.List.{slice_get}
use Rattle.matching.specs.Printed.{rows}
use Rattle.printed.proofs.Entries.{got, got_or}
use Rattle.printed.proofs.Gathering.{white, column_at}
use Rattle.printed.proofs.printed_scorer.Printed.column.Goals as goal

pub returns : goal.returns
returns c =
    let self = c.args.self.now in
    let there : c.copied.result ≡ slice_get self.columns.now c.args.x = c.copied.ensures ∙ got self.columns.now c.args.x c.get.result c.get.ensures.lookup in
    got_or c.copied.result self.columns.now c.args.x white _ there (λ q p. search rules) c.unwrap_or_default.ensures
    ∙ ap (λ l. get_or l c.args.x white) self.gathered ∙ column_at self.photo (rows self.face.bytes.now) c.args.x
