-- What is read of cells after one was written: that one at its place, and all others as they were. Assumes nothing.
use Rattle.std.proofs.Common.{◌≡◌, ℕ, ◌+◌, ◌*◌, ◌<◌, ◌≤◌, ltb, leb, List, length, get_or, Some, None, Ok, Option, sym, refl, ap, subst, ⊎_elim, arith}
use Rattle.std.proofs.lemmas.Nat.{mul-le}
use Rattle.std.proofs.lemmas.List.{length-set, get_or-set_same, get_or-set_other, get_or-take}
use Rattle.std.proofs.lemmas.Bool.{and_parts, and_from, ltb-true, leb-true, lt-ltb, le-leb, cases_order}
use Rattle.std.proofs.lemmas.Option.{cond_some}
use Rattle.octets.specs.Absent.{present}
use Rattle.refusal.proofs.First.{exactly_ensure}
use Rattle.refusal.specs.declared.Refusal.TheVariants.{CellsTooFew}
use Rattle.cells.proofs.Widths.{length_widths}
use Rattle.cells.specs.Blank.{blank}
use Rattle.cells.specs.Layout.{cell_index, needed, cells_verdict, on_line, is_place, node_index, place_index, cell_at, with_cell, node_cell, place_cell, with_node, with_place}
use Rattle.cells.specs.Line.{widths, templates}
use Rattle.cells.specs.declared.cell.Cell.{Cell}
use Rattle.cells.specs.declared.line.Line.{Line}

-- a cell that is written is read there, and one elsewhere is as it was
pub length_with_cell : (cells : List Cell) (at : Option ℕ) (c : Cell) → length (with_cell cells at c) ≡ length cells
unfolding with_cell
length_with_cell cells None c = refl
length_with_cell cells (Some i) c = length-set cells i c

cell_at_same : (cells : List Cell) (i : ℕ) (c : Cell) → i < length cells → cell_at (with_cell cells (Some i) c) (Some i) ≡ c
unfolding with_cell cell_at
cell_at_same cells i c h = get_or-set_same cells i c blank h

cell_at_other : (cells : List Cell) (at other : Option ℕ) (c : Cell) → ((i : ℕ) → at ≡ Some i → other ≡ Some i → ⊥) → cell_at (with_cell cells at c) other ≡ cell_at cells other
unfolding with_cell cell_at
cell_at_other cells None None c h = refl
cell_at_other cells None (Some j) c h = refl
cell_at_other cells (Some i) None c h = refl
cell_at_other cells (Some i) (Some j) c h = get_or-set_other cells i j c blank (λ e. h i refl (ap Some e))

-- each template of a line takes up a column or more
pub widths_positive : (l : Line) (t : ℕ) → t < length (widths l) → 1 ≤ get_or (widths l) t 0
unfolding widths
widths_positive l t h =
    let known : t < templates l = omega (arith, length_widths l) in
    subst (λ d. 1 ≤ d) (sym (get_or-take l.count l.setwidths t 0 known)) (l.set t known).0

module _ (l : Line) where
  row_end : (t : ℕ) → (x : ℕ) → x ≤ l.width → cell_index l x t < (t + 1) * (l.width + 1)
  row_end t x h = omega arith

  rows_before : (t n : ℕ) → t < n → (t + 1) * (l.width + 1) ≤ n * (l.width + 1)
  rows_before t n h = mul-le (t + 1) (l.width + 1) n (l.width + 1) (omega arith) (omega arith)

  -- where a node lies, and where a place lies
  node_lies : (x t i : ℕ) → node_index l x t ≡ Some i → (t < templates l) × (x ≤ l.width) × (cell_index l x t ≡ i)
  unfolding node_index
  node_lies x t i e =
      let both = cond_some (on_line l x t) (cell_index l x t) i e in
      let parts = and_parts (ltb t (templates l)) (leb (x + get_or (widths l) t 0) l.width) both.0 in
      (ltb-true t (templates l) parts.0, omega (arith, leb-true (x + get_or (widths l) t 0) l.width parts.1), both.1)

  place_lies : (p i : ℕ) → place_index l p ≡ Some i → (p ≤ l.width) × (cell_index l p (templates l) ≡ i)
  unfolding place_index
  place_lies p i e =
      let both = cond_some (is_place l p) (cell_index l p (templates l)) i e in
      (leb-true p l.width both.0, both.1)

  place_there : (p : ℕ) → p ≤ l.width → place_index l p ≡ Some (cell_index l p (templates l))
  unfolding place_index
  place_there p h = ap (λ b. present b (cell_index l p (templates l))) (le-leb p l.width h)

  node_there : (x t : ℕ) → t < templates l → x + get_or (widths l) t 0 ≤ l.width → node_index l x t ≡ Some (cell_index l x t)
  unfolding node_index
  node_there x t known ends =
      ap (λ b. present b (cell_index l x t)) (and_from (ltb t (templates l)) (leb (x + get_or (widths l) t 0) l.width) (lt-ltb t (templates l) known) (le-leb _ l.width ends))

  -- a node and a place, two places, two nodes lie apart
  node_place_apart : (x t p i : ℕ) → node_index l x t ≡ Some i → place_index l p ≡ Some i → ⊥
  node_place_apart x t p i a b =
      let n = node_lies x t i a in
      let q = place_lies p i b in
      omega (arith, row_end t x n.1, rows_before t (templates l) n.0, n.2, q.1)

  places_apart : (p q i : ℕ) → (p ≡ q → ⊥) → place_index l p ≡ Some i → place_index l q ≡ Some i → ⊥
  places_apart p q i ne a b = ne (omega (arith, (place_lies p i a).1, (place_lies q i b).1))

  nodes_apart : (x t y u i : ℕ) → ((x ≡ y) × (t ≡ u) → ⊥) → node_index l x t ≡ Some i → node_index l y u ≡ Some i → ⊥
  nodes_apart x t y u i ne a b =
      let n = node_lies x t i a in
      let m = node_lies y u i b in
      ⊎_elim
      (λ (e : t ≡ u).
      let same : t * (l.width + 1) ≡ u * (l.width + 1) = ap (λ k. k * (l.width + 1)) e in
      ne (omega (arith, n.2, m.2), e))
      (⊎_elim
      (λ (lt : t < u). omega (arith, row_end t x n.1, rows_before t u lt, n.2, m.2))
      (λ (gt : u < t). omega (arith, row_end u y m.1, rows_before u t gt, n.2, m.2)))
      (cases_order t u)

  module _ (cells : List Cell) (c : Cell) where
    pub place_same : needed l ≤ length cells → (p : ℕ) → p ≤ l.width → place_cell l (with_place l cells p c) p ≡ c
    place_same enough p h =
        subst (λ at. cell_at (with_cell cells at c) at ≡ c) (sym (place_there p h))
        (cell_at_same cells (cell_index l p (templates l)) c (omega arith))

    pub place_other : (p q : ℕ) → (p ≡ q → ⊥) → place_cell l (with_place l cells p c) q ≡ place_cell l cells q
    place_other p q ne = cell_at_other cells (place_index l p) (place_index l q) c (λ i. places_apart p q i ne)

    pub node_past_place : (p x t : ℕ) → node_cell l (with_place l cells p c) x t ≡ node_cell l cells x t
    node_past_place p x t =
        cell_at_other cells (place_index l p) (node_index l x t) c (λ i a b. node_place_apart x t p i b a)

    pub place_past_node : (x t p : ℕ) → place_cell l (with_node l cells x t c) p ≡ place_cell l cells p
    place_past_node x t p = cell_at_other cells (node_index l x t) (place_index l p) c (λ i. node_place_apart x t p i)

    pub node_same : needed l ≤ length cells → (x t : ℕ) → t < templates l → x + get_or (widths l) t 0 ≤ l.width → node_cell l (with_node l cells x t c) x t ≡ c
    node_same enough x t known ends =
        subst (λ at. cell_at (with_cell cells at c) at ≡ c) (sym (node_there x t known ends))
        (cell_at_same cells (cell_index l x t) c (omega (arith, row_end t x (omega arith), rows_before t (templates l) known)))

    pub node_other : (x t y u : ℕ) → ((x ≡ y) × (t ≡ u) → ⊥) → node_cell l (with_node l cells x t c) y u ≡ node_cell l cells y u
    node_other x t y u ne = cell_at_other cells (node_index l x t) (node_index l y u) c (λ i. nodes_apart x t y u i ne)

-- cells that are refused nothing are enough
pub enough_cells : (l : Line) (n : ℕ) → cells_verdict l n ≡ Ok tt → needed l ≤ n
enough_cells l n ok = (exactly_ensure (leb (needed l) n) (CellsTooFew (needed l)) (leb-true (needed l) n, le-leb (needed l) n)).0 ok
