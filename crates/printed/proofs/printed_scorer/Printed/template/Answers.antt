use Rattle.std.proofs.Common.{◌≡◌, ap, ◌∙◌}
use Rattle.std.specs.List.{slice_get}
use Rattle.face.specs.Fields.{count}
use Rattle.printed.specs.Tabulated.{template_of}
use Rattle.printed.proofs.Entries.{got, get_listed}
use Rattle.printed.proofs.printed_scorer.Printed.template.Goals as goal

pub returns : goal.returns
returns c =
    let self = c.args.self.now in
    let face = self.face.bytes.now in
    let there : c.copied.result ≡ slice_get self.templates.now c.args.t = c.copied.ensures ∙ got self.templates.now c.args.t c.get.result c.get.ensures.lookup in
    there ∙ ap (λ l. slice_get l c.args.t) self.listed ∙ get_listed (template_of face) (count face) c.args.t
