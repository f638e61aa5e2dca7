use Rattle.std.proofs.Common.{◌+◌, pos, ◌*ℤ◌, ◌∙◌, arith, w64, SFits, rules}
use lib.Bits.{bit_and}
use lib.Count.{ones}
use Rattle.std.proofs.lemmas.Int.{to_z-of_z}
use Rattle.face.specs.Fields.{levels, gamma}
use Rattle.face.specs.Laid.{column_word}
use Rattle.printed.proofs.Laid.{laid_of}
use Rattle.printed.proofs.Summing.{signed_summed, signed_fits}
use Rattle.printed.proofs.Strips.{level_small}
use Rattle.printed.proofs.strip.Strip.column_gain.Goals as goal

pub sum-requires-clause-fits : goal.sum-requires-clause-fits
sum-requires-clause-fits c =
    let self = c.args.self.now in
    let face = self.weighed.face.bytes.now in
    let laid = laid_of self.weighed.face in
    let column = self.first + c.args.c in
    signed_fits _ (λ l. gamma face l *ℤ pos (ones (bit_and (column_word face column l) c.args.column))) (levels face) c.map.ensures.source c.levels.ensures.value c.map.ensures.closure (λ x r q k. search rules)
    32000 4 (level_small face laid column (omega (arith, self.there)) c.args.column) laid.levelled.1 (omega arith)

pub returns : goal.returns
returns c =
    let self = c.args.self.now in
    let face = self.weighed.face.bytes.now in
    let column = self.first + c.args.c in
    let fits : SFits w64 c.sum.result = search rules in
    to_z-of_z w64 c.sum.result fits
    ∙ signed_summed _ (λ l. gamma face l *ℤ pos (ones (bit_and (column_word face column l) c.args.column))) (levels face) c.map.ensures.source c.levels.ensures.value c.map.ensures.closure (λ x r q k. search rules) c.sum.result c.sum.ensures.ran
