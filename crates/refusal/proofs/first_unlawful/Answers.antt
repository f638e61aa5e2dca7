use Rattle.std.proofs.Common.{true, false, sym, arith}
use Rattle.refusal.proofs.First.{sofar_more, sofar_stop, sofar_all}
use Rattle.refusal.proofs.first_unlawful.Goals as goal

pub returns-then-not-lawful-clause-value : goal.returns-then-not-lawful-clause-value
returns-then-not-lawful-clause-value g c =
    let i = c.loop-i.i in
    λ test told. sym (sofar_stop c.args.n test i (c.loop-i.invariant test told) (omega arith) (told i false (omega arith) c.if-not-lawful.ensures))

pub loop-i-preserved : goal.loop-i-preserved
loop-i-preserved g c =
    let i = c.loop-i.i in
    λ test told. sofar_more c.args.n test i (c.loop-i.invariant test told) (omega arith) (told i true (omega arith) c.if-not-lawful.ensures)

pub returns-clause-value : goal.returns-clause-value
returns-clause-value g c = λ test told. sym (sofar_all c.args.n test c.loop-i.i (c.loop-i.invariant test told) (omega arith))
