use Rattle.std.proofs.Common.{length, get_or, pos, ◌*ℤ◌, ap, ◌∙◌, arith, w16, w64, SFits, rules}
use lib.Bits.{bit_and}
use lib.Count.{ones}
use Rattle.std.proofs.lemmas.Int.{to_z-of_z}
use Rattle.printed.proofs.Laid.{laid_of}
use Rattle.printed.proofs.Strips.{weights_length, weight_is}
use Rattle.printed.proofs.strip.Strip.level_gain.Goals as goal

pub bounds-self-l : goal.bounds-self-l
bounds-self-l c = omega (arith, ap length c.args.self.now.weighed.weighed, weights_length c.args.self.now.weighed.face.bytes.now, c.requires.1)

pub offset_bounds-self-l : goal.offset_bounds-self-l
offset_bounds-self-l c =
    let face = c.args.self.now.weighed.face in
    omega (arith, c.requires.1, (laid_of face).levelled.1)

pub returns : goal.returns
returns c =
    let weighed = c.args.self.now.weighed in
    let face = weighed.face.bytes.now in
    let fits : SFits w64 c.earned.result = search rules in
    let small : SFits w16 (get_or weighed.weights.now c.args.l (pos 0)) = search rules in
    let weight = to_z-of_z w16 (get_or weighed.weights.now c.args.l (pos 0)) small ∙ ap (λ ws. get_or ws c.args.l (pos 0)) weighed.weighed ∙ weight_is face c.args.l c.requires.1 (pos 0) in
    let count = c.ones_in.ensures.value ∙ ap (λ word. ones (bit_and word c.args.column)) c.word.ensures in
    to_z-of_z w64 c.earned.result fits ∙ c.earned.ensures.value ∙ (λ i. weight i *ℤ pos (count i))
