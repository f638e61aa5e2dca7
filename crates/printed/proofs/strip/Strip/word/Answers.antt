use Rattle.std.proofs.Common.{◌+◌, ◌*◌, ◌≤◌, ap, ◌∙◌, arith}
use Rattle.std.proofs.lemmas.Nat.{mul-le}
use Rattle.octets.specs.Numbers.{u32_at}
use Rattle.face.specs.Fields.{levels}
use Rattle.printed.proofs.Laid.{laid_of}
use Rattle.printed.proofs.Strips.{all_few, strip_word}
use Rattle.printed.proofs.strip.Strip.word.Goals as goal

pub overflow_mul-levels : goal.overflow_mul-levels
overflow_mul-levels c =
    let face = c.args.self.now.weighed.face in
    let few : c.args.c ≤ 65536 = omega (arith, c.args.self.now.there, all_few face.bytes.now (laid_of face)) in
    omega (arith, mul-le c.levels.result c.args.c 4 65536 (omega arith) few)

pub overflow_add-levels : goal.overflow_add-levels
overflow_add-levels c =
    let face = c.args.self.now.weighed.face in
    let few : c.args.c ≤ 65536 = omega (arith, c.args.self.now.there, all_few face.bytes.now (laid_of face)) in
    omega (arith, mul-le c.levels.result c.args.c 4 65536 (omega arith) few)

pub overflow_mul-levels-2 : goal.overflow_mul-levels-2
overflow_mul-levels-2 c =
    let face = c.args.self.now.weighed.face in
    let few : c.args.c ≤ 65536 = omega (arith, c.args.self.now.there, all_few face.bytes.now (laid_of face)) in
    omega (arith, mul-le c.levels.result c.args.c 4 65536 (omega arith) few)

pub returns : goal.returns
returns c =
    let self = c.args.self.now in
    let face = self.weighed.face in
    let at = ap (λ n. u32_at self.words.now (4 * (n * c.args.c + c.args.l))) c.levels.ensures.value in
    let lies = ap (λ ws. u32_at ws (4 * (levels face.bytes.now * c.args.c + c.args.l))) self.lies in
    c.from.ensures ∙ c.at.ensures ∙ at ∙ lies
    ∙ strip_word face.bytes.now (laid_of face) self.first self.width self.there c.args.c c.args.l c.requires.0 c.requires.1
