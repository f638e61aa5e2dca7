use Rattle.std.proofs.Common.{◌≡◌, ◌*◌, ◌^◌, ◌∙◌, arith, rules}
use Rattle.std.proofs.lemmas.Int.{ints}
use Rattle.face.specs.Fields.{box_width, setwidth, prior, columns_before}
use Rattle.printed.proofs.Laid.{laid_of}
use Rattle.printed.specs.Tables.{strip_worth}
use Rattle.printed.proofs.Adding.{total}
use Rattle.printed.proofs.Strips.{box_there, worth_within}
use Rattle.printed.proofs.strip.Weighed.template.Goals as goal

pub strip-requires : goal.strip-requires
strip-requires c =
    let face = c.args.self.now.face.bytes.now in
    let laid = laid_of c.args.self.now.face in
    let width : c.from-width.result ≡ box_width face c.args.t = search rules in
    omega (arith, width, c.requires.1, box_there face laid c.args.t c.requires.0)

pub overflow_add-result : goal.overflow_add-result
overflow_add-result c =
    let face = c.args.self.now.face.bytes.now in
    let laid = laid_of c.args.self.now.face in
    let t = c.args.t in
    let of_prior : c.from-2.result ≡ prior face t = search rules in
    let wide : c.from-width.result ≡ box_width face t = search rules in
    let weighed = (laid.templates_laid t c.requires.0).weighed in
    (total 10000 (4 * 2 ^ 32) _ _ _ _ of_prior (c.worth-worth.ensures ∙ (λ i. strip_worth (c.strip.ensures.face i).face.bytes.now ((c.strip.ensures.first ∙ c.requires.1) i) ((c.strip.ensures.width ∙ wide) i))) (weighed.0, omega (arith, ints, weighed.1)) (worth_within face laid (columns_before face t) (box_width face t) (box_there face laid t c.requires.0)) (omega arith)).0

pub returns : goal.returns
returns c =
    let face = c.args.self.now.face.bytes.now in
    let laid = laid_of c.args.self.now.face in
    let t = c.args.t in
    let of_prior : c.from-2.result ≡ prior face t = search rules in
    let set : c.from.result ≡ setwidth face t = search rules in
    let wide : c.from-width.result ≡ box_width face t = search rules in
    let weighed = (laid.templates_laid t c.requires.0).weighed in
    let base = (total 10000 (4 * 2 ^ 32) _ _ _ _ of_prior (c.worth-worth.ensures ∙ (λ i. strip_worth (c.strip.ensures.face i).face.bytes.now ((c.strip.ensures.first ∙ c.requires.1) i) ((c.strip.ensures.width ∙ wide) i))) (weighed.0, omega (arith, ints, weighed.1)) (worth_within face laid (columns_before face t) (box_width face t) (box_there face laid t c.requires.0)) (omega arith)).1 in
    λ i. record { setwidth = set i; width = wide i; first = c.requires.1 i; base = base i }
