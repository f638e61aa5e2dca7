-- The columns of the templates follow each other. Assumes nothing.
use Rattle.std.proofs.Common.{◌≡◌, ℕ, zero, suc, ◌+◌, ◌*◌, ◌<◌, ◌≤◌, true, leb, List, length, sym, refl, ap, subst, ⊎_elim, add-one, mul-add, arith}
use Rattle.std.proofs.lemmas.Nat.{mul-le}
use Rattle.std.proofs.lemmas.Bool.{cases_lt, and_from, le-leb}
use Rattle.std.proofs.lemmas.List.{map-id}
use Rattle.std.proofs.lemmas.List.FromFn.{sum_by-map-range_with_len_more}
use Rattle.face.specs.Fields.{count, levels, box_width, columns_before, column_start, columns_start, columns_there}
use Rattle.face.specs.Laid.{FaceLaid}

pub columns_none : (face : List ℕ) → columns_before face 0 ≡ 0
unfolding columns_before
columns_none face = refl

pub columns_more : (face : List ℕ) (t : ℕ) → columns_before face (t + 1) ≡ columns_before face t + box_width face t
unfolding columns_before
columns_more face t =
    let one = sum_by-map-range_with_len_more (box_width face) (λ i. i) 0 t t (omega arith) in
    rw (map-id, map-id) at one

pub columns_mono : (face : List ℕ) (s t : ℕ) → s ≤ t → columns_before face s ≤ columns_before face t
columns_mono face s zero h = let z : s ≡ 0 = omega arith in subst (λ q. columns_before face q ≤ columns_before face 0) (sym z) (omega arith)
columns_mono face s (suc t) h =
    ⊎_elim
    (λ low. let more = columns_more face t in rw (← add-one) (omega (arith, more, columns_mono face s t (omega arith))))
    (λ top. let z : s ≡ suc t = omega arith in subst (λ q. columns_before face q ≤ columns_before face (suc t)) (sym z) (omega arith))
    (cases_lt s (suc t))

-- no box is wider than a byte tells
pub columns_at_most : (face : List ℕ) (t : ℕ) → ((i : ℕ) → box_width face i ≤ 255) → columns_before face t ≤ 255 * t
columns_at_most face zero narrow = omega (arith, columns_none face)
columns_at_most face (suc t) narrow =
    rw (← add-one) (omega (arith, columns_more face t, narrow t, columns_at_most face t narrow))

-- the columns of template t begin where those before it end, and end within the bytes
pub columns_end : (face : List ℕ) (t : ℕ) → columns_start face (t + 1) ≡ columns_start face t + 4 * (levels face * box_width face t)
columns_end face t = omega (arith, ap (λ q. levels face * q) (columns_more face t), mul-add (levels face) (columns_before face t) (box_width face t))

pub columns_within : (face : List ℕ) (t : ℕ) → FaceLaid face → t < count face → columns_start face (t + 1) ≤ length face
columns_within face t laid h =
    let mono : columns_before face (t + 1) ≤ columns_before face (count face) = columns_mono face (t + 1) (count face) (omega arith) in
    omega (arith, laid.ends, mul-le (levels face) (columns_before face (t + 1)) (levels face) (columns_before face (count face)) (omega arith) mono)

-- column c of template t is one of all columns
pub column_there : (face : List ℕ) (t c : ℕ) → t < count face → c < box_width face t → columns_before face t + c < columns_before face (count face)
column_there face t c h k = omega (arith, columns_more face t, columns_mono face (t + 1) (count face) (omega arith))

-- columns begin one after the other, each after as many bytes as columns come before it
pub starts_mono : (face : List ℕ) (first end : ℕ) → first ≤ end → column_start face first ≤ column_start face end
starts_mono face first end h = omega (arith, mul-le (levels face) first (levels face) end (omega arith) h)

pub starts_over : (face : List ℕ) (column : ℕ) → 1 ≤ levels face → column ≤ column_start face column
starts_over face column h = omega (arith, mul-le 1 column (levels face) column h (omega arith))

-- the columns before a template are fewer than the bytes
pub columns_few : (face : List ℕ) (t : ℕ) → FaceLaid face → t ≤ count face → columns_before face t ≤ 65536
columns_few face t laid h =
    omega (arith, columns_mono face t (count face) h, starts_over face (columns_before face (count face)) laid.levelled.0, laid.ends, laid.sized.1)

-- the columns of a template are there
pub columns_are_there : (face : List ℕ) (t : ℕ) → FaceLaid face → t < count face → columns_there face (columns_before face t) (columns_before face (t + 1)) ≡ true
columns_are_there face t laid h =
    let first = columns_before face t in
    let end = columns_before face (t + 1) in
    and_from (leb first end) (leb (column_start face end) (length face)) (le-leb first end (omega (arith, columns_more face t))) (le-leb (column_start face end) (length face) (columns_within face t laid h))
