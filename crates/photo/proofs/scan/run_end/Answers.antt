use Rattle.std.proofs.Common.{◌+◌, ◌-◌, length, drop, ap, ◌∙◌, arith}
use Rattle.std.proofs.lemmas.List.{take_all, length-drop}
use Rattle.std.proofs.lemmas.Iterator.{YieldsList-from_slice}
use Rattle.std.proofs.lemmas.Iterator.Consumers.{YieldsList-at, count_from_yields_List}
use Rattle.std.proofs.lemmas.Iterator.Search.{YieldsList-from_take_while}
use Rattle.photo.proofs.Runs.{run_count}
use Rattle.photo.proofs.scan.run_end.Goals as goal

pub returns-clause-value : goal.returns-clause-value
returns-clause-value g c = λ test told.
    let b = c.args.bytes.now in
    let i = c.args.from in
    let rest = c.iter.ensures.rest ∙ take_all (length b - i) (drop i b) (omega (arith, length-drop i b)) in
    let road = YieldsList-from_take_while _ test (YieldsList-at c.take_while.ensures.source (YieldsList-from_slice (drop i b) rest)) c.take_while.ensures.closure c.take_while.ensures.done told in
    ap (λ n. i + n) (count_from_yields_List c.take_while.result c.count.result c.count.ensures.ran road) ∙ run_count test b i
