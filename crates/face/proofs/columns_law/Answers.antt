use Rattle.face.proofs.Columns.{columns_more, columns_are_there, columns_end}
use Rattle.face.proofs.Exact.{laid_from_is_ok}
use Rattle.face.proofs.columns_law.Goals as goal

pub returns : goal.returns
returns c =
    let b = c.args.bytes.now in
    let t = c.args.t in
    record { ends = columns_end b t; follow = columns_more b t; there = columns_are_there b t (laid_from_is_ok b c.requires.0) c.requires.1 }
