use Rattle.std.proofs.Common.{◌≡◌, ℕ, ◌+◌, ◌*◌, ◌<◌, List, ℤ, ◌+ℤ◌, pos, sym, ap, ◌∙◌, add-one, arith, w64, SFits, to_z, of_z}
use Rattle.std.proofs.lemmas.Int.{ints}
use Rattle.face.specs.Fields.{box_width}
use Rattle.matching.specs.Counts.{sum_signed}
use Rattle.matching.specs.Printed.{base}
use Rattle.matching.proofs.Lawful.{base_within}
use Rattle.matching.proofs.Ranges.{Within, within_add, sum_within}
use Rattle.printed.proofs.Laid.{laid_of}
use Rattle.printed.proofs.Adding.{held, onto}
use Rattle.printed.proofs.printed_scorer.Node.over_columns.Given.{Over}
use Rattle.printed.proofs.printed_scorer.Node.over_columns.Goals as goal

pub loop-c-init : goal.loop-c-init
unfolding sum_signed
loop-c-init g c =
    let self = c.args.self.now in
    let face = self.line.now.face in
    λ f told. held 1034000 self.template.base (base face.bytes.now self.t) (ap (λ p. p.base) self.laid) (base_within face.bytes.now (laid_of face) self.t self.known) (omega arith) ∙ omega (arith, ints)

-- one column more: the function that the closure is known to compute says that it fits
module _ (g : Over) (c : goal.After-gain-score g) where
  abbrev face : List ℕ
  face = c.args.self.now.line.now.face.bytes.now

  abbrev t : ℕ
  t = c.args.self.now.t

  abbrev f : ℕ → ℤ
  f = c.requires.small.0

  wide : c.loop-c.c < box_width face t
  wide = omega (arith, ap (λ p. p.width) c.args.self.now.laid, c.loop-c-test.true)

  stepped : SFits w64 (to_z w64 c.loop-c.score-bits +ℤ to_z w64 (of_z w64 c.gain-score.result)) × (to_z w64 (of_z w64 (to_z w64 c.loop-c.score-bits +ℤ to_z w64 (of_z w64 c.gain-score.result))) ≡ base face t +ℤ sum_signed c.loop-c.c f +ℤ f c.loop-c.c)
  stepped =
      let laid = laid_of c.args.self.now.line.now.face in
      onto (1034000 + c.loop-c.c * 144000) 144000 _ _ (base face t +ℤ sum_signed c.loop-c.c f) (f c.loop-c.c)
      (c.loop-c.invariant f c.requires.small.1) (c.requires.small.1 c.loop-c.c c.gain-score.result c.gain-score.ensures)
      (within_add 1034000 (c.loop-c.c * 144000) _ _ (base_within face laid t c.args.self.now.known) (sum_within c.loop-c.c 144000 f (λ i h. c.requires.small.2 i (omega (arith, wide)))))
      (c.requires.small.2 c.loop-c.c wide)
      (omega (arith, (laid.templates_laid t c.args.self.now.known).boxed, wide))

one_more : (a : ℤ) (n : ℕ) (f : ℕ → ℤ) → a +ℤ sum_signed n f +ℤ f n ≡ a +ℤ sum_signed (n + 1) f
unfolding sum_signed
one_more a n f = omega (arith, ints, ap (λ k. sum_signed k f) (add-one n))

pub overflow_add-score : goal.overflow_add-score
overflow_add-score g c = (stepped g c).0

pub loop-c-preserved : goal.loop-c-preserved
loop-c-preserved g c = λ h told.
    let known = c.requires.small.1 in
    let i = c.loop-c.c in
    let before = sym (c.loop-c.invariant (f g c) known) ∙ c.loop-c.invariant h told in
    let here = sym (known i c.gain-score.result c.gain-score.ensures) ∙ told i c.gain-score.result c.gain-score.ensures in
    (stepped g c).1 ∙ (λ j. before j +ℤ here j) ∙ one_more (base (face g c) (t g c)) i h

pub returns : goal.returns
returns g c = λ h told.
    let self = c.args.self.now in
    let face = self.line.now.face.bytes.now in
    let all : c.loop-c.c ≡ box_width face self.t = omega (arith, ap (λ p. p.width) self.laid) in
    c.loop-c.invariant h told ∙ ap (λ n. base face self.t +ℤ sum_signed n h) all
