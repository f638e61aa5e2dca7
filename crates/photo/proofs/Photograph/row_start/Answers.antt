use Rattle.std.proofs.Common.{◌≡◌, ◌+◌, ◌*◌, ◌≤◌, ap, arith}
use Rattle.std.proofs.lemmas.Nat.{mul-le}
use Rattle.photo.specs.Verdict.{stride}
use Rattle.photo.proofs.Photograph.row_start.Goals as goal

small : (c : goal.After-stride) → c.args.self.now.header.raster + c.args.y * stride c.args.self.now.header.width ≤ 16384
small c =
    let p = c.args.self.now in
    let few : c.args.y ≤ p.rows = omega (arith, c.requires) in
    let width = p.header.width in
    let all : p.rows * stride width ≡ p.rows * stride _ = ap (λ h. p.rows * stride h.width) p.told in
    omega (arith, ap (λ h. h.raster) p.told, all, c.laid.ensures.size, c.laid.ensures.whole, c.laid.ensures.begins, mul-le c.args.y (stride width) p.rows (stride width) few (omega arith))

pub overflow_add-result : goal.overflow_add-result
overflow_add-result c = omega (arith, small c, ap (λ s. c.args.y * s) c.stride.ensures)
