use Rattle.std.proofs.Common.{◌^◌, pos, ◌*ℤ◌, ◌∙◌, arith, w64, SFits, rules}
use Rattle.std.proofs.lemmas.Int.{to_z-of_z}
use Rattle.face.specs.Fields.{levels, beta}
use Rattle.printed.proofs.Laid.{laid_of}
use Rattle.printed.specs.Tables.{strip_pixels}
use Rattle.printed.proofs.Summing.{signed_summed, signed_fits}
use Rattle.printed.proofs.Strips.{worth_small}
use Rattle.printed.proofs.strip.Strip.worth.Goals as goal

pub sum-requires-clause-fits : goal.sum-requires-clause-fits
sum-requires-clause-fits c =
    let self = c.args.self.now in
    let face = self.weighed.face.bytes.now in
    let laid = laid_of self.weighed.face in
    signed_fits _ (λ l. beta face l *ℤ pos (strip_pixels face self.first self.width l)) (levels face) c.map.ensures.source c.levels.ensures.value c.map.ensures.closure (λ x r q k. search rules)
    (2 ^ 32) 4 (worth_small face laid self.first self.width self.there) laid.levelled.1 (omega arith)

pub returns : goal.returns
returns c =
    let self = c.args.self.now in
    let face = self.weighed.face.bytes.now in
    let fits : SFits w64 c.sum.result = search rules in
    to_z-of_z w64 c.sum.result fits
    ∙ signed_summed _ (λ l. beta face l *ℤ pos (strip_pixels face self.first self.width l)) (levels face) c.map.ensures.source c.levels.ensures.value c.map.ensures.closure (λ x r q k. search rules) c.sum.result c.sum.ensures.ran
