use Rattle.std.proofs.Common.{refl, ap, ◌∙◌, arith}
use Rattle.std.proofs.lemmas.List.{take_all}
use Rattle.photo.specs.Header.{decimal}
use Rattle.photo.proofs.Runs.{decimal_more, decimal_small}
use Rattle.photo.proofs.scan.decimal_of.Goals as goal

pub loop-d-init : goal.loop-d-init
unfolding decimal
loop-d-init c = refl

pub overflow_mul-value : goal.overflow_mul-value
overflow_mul-value c = omega (arith, decimal_small c.args.digits.now c.loop-d.d-index c.requires.0 c.requires.1)

pub overflow_add-value : goal.overflow_add-value
overflow_add-value c = omega (arith, decimal_small c.args.digits.now c.loop-d.d-index c.requires.0 c.requires.1)

pub loop-d-preserved : goal.loop-d-preserved
loop-d-preserved c = omega (arith, decimal_more c.args.digits.now c.loop-d.d-index (omega arith))

pub returns : goal.returns
returns c =
    let whole = take_all c.loop-d.d-index c.args.digits.now (omega arith) in
    record {
      value = c.loop-d.invariant ∙ ap decimal whole;
      bound = omega (arith, decimal_small c.args.digits.now c.loop-d.d-index c.requires.0 c.requires.1);
    }
