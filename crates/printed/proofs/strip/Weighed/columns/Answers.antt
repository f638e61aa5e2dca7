use Rattle.std.proofs.Common.{◌^◌, map, ap, ◌∙◌, subst, arith, rules}
use Rattle.std.proofs.lemmas.Iterator.{YieldsList, YieldsList-from_map, YieldsList-from_slice}
use Rattle.face.specs.Fields.{count, box_width}
use Rattle.printed.proofs.Laid.{laid_of}
use Rattle.printed.proofs.Summing.{road_summed, road_fits}
use Rattle.printed.proofs.Strips.{widths, widths_sum}
use Rattle.printed.proofs.strip.Weighed.columns.Goals as goal

pub sum-requires-clause-fits : goal.sum-requires-clause-fits
sum-requires-clause-fits c =
    let face = c.args.self.now.face.bytes.now in
    let laid = laid_of c.args.self.now.face in
    road_fits (box_width face) (count face) _
    (subst (YieldsList _ (λ x. x) c.map.result) (ap (map (λ p. p.width)) c.requires ∙ widths face) (YieldsList-from_map _ (λ p. p.width) (YieldsList-from_slice c.args.templates.now cc) c.map.ensures.closure (λ x r q k. search rules)))
    32 (2 ^ 64) (λ t h. (laid.templates_laid t h).boxed) (omega (arith, laid.counted.1))

pub returns : goal.returns
returns c =
    let face = c.args.self.now.face.bytes.now in
    road_summed (box_width face) (count face) _
    (subst (YieldsList _ (λ x. x) c.map.result) (ap (map (λ p. p.width)) c.requires ∙ widths face) (YieldsList-from_map _ (λ p. p.width) (YieldsList-from_slice c.args.templates.now cc) c.map.ensures.closure (λ x r q k. search rules))) c.sum.result c.sum.ensures.ran
    ∙ widths_sum face (count face)
