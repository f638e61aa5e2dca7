use Rattle.std.proofs.Common.{◌≡◌, [], length, get_or, pos, ap, ◌∙◌, arith}
use Rattle.std.proofs.lemmas.List.FromFn.{length-map-range_with_len, get_or-map-range_with_len}
use Rattle.face.specs.Fields.{count, columns_before}
use Rattle.printed.proofs.Laid.{laid_of}
use Rattle.matching.specs.Printed.{rows, value_of, black_count}
use Rattle.matching.proofs.Rows.{count_le}
use Rattle.printed.specs.Gathered.{image_of}
use Rattle.printed.specs.Tables.{values_of}
use Rattle.printed.proofs.Adding.{held}
use Rattle.printed.proofs.Entries.{entry}
use Rattle.printed.proofs.Strips.{all_few, value_small}
use Rattle.printed.proofs.printed_scorer.Printed.value_at.Goals as goal

pub bounds-self-column : goal.bounds-self-column
bounds-self-column c =
    let self = c.args.self.now in
    let face = self.face.bytes.now in
    omega (arith, ap length self.valued, length-map-range_with_len (values_of face) 0 (columns_before face (count face)))

pub offset_bounds-self-column : goal.offset_bounds-self-column
offset_bounds-self-column c =
    let face = c.args.self.now.face in
    omega (arith, c.requires, all_few face.bytes.now (laid_of face))

pub offset_bounds-self-column-2 : goal.offset_bounds-self-column-2
offset_bounds-self-column-2 c =
    let self = c.args.self.now in
    let laid = laid_of self.face in
    omega (arith, ap (λ q. q.black) c.column.ensures, count_le (rows self.face.bytes.now) (image_of self.photo c.args.x), laid.high.1)

pub bounds-self-column-2 : goal.bounds-self-column-2
bounds-self-column-2 c =
    let self = c.args.self.now in
    let laid = laid_of self.face in
    omega (arith, ap (λ q. q.black) c.column.ensures, count_le (rows self.face.bytes.now) (image_of self.photo c.args.x), laid.high.1)

pub returns : goal.returns
returns c =
    let self = c.args.self.now in
    let face = self.face.bytes.now in
    let laid = laid_of self.face in
    let column = c.args.column in
    let black = black_count face (image_of self.photo) c.args.x in
    let few = count_le (rows face) (image_of self.photo c.args.x) in
    let row : get_or self.values.now column [] ≡ values_of face column =
    ap (λ l. get_or l column []) self.valued ∙ get_or-map-range_with_len (values_of face) 0 (columns_before face (count face)) column column [] c.requires (omega arith) in
    let at : get_or (get_or self.values.now column []) c.column.result.black (pos 0) ≡ value_of face column black =
    (λ i. get_or (row i) (c.column.ensures i).black (pos 0)) ∙ entry (value_of face column) black (omega (arith, few, laid.high.1)) (pos 0) in
    held 144000 _ _ at (value_small face laid column black (omega (arith, few, laid.high.1))) (omega arith)
