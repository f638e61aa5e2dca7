-- The gathered columns of an image, and the white right of it. Assumes nothing.
use Rattle.std.proofs.Common.{◌≡◌, ℕ, zero, suc, ◌+◌, ◌*◌, ◌%◌, ◌^◌, ◌<◌, ◌≤◌, Bool, true, false, ◌&&◌, ltb, get_or, sym, refl, ap, ◌∙◌, ⊎_elim, arith}
use lib.ListN.{get_or-eq_default}
use Rattle.std.proofs.Math.Nat.{pow-le-pow_right}
use Rattle.std.proofs.lemmas.List.FromFn.{length-map-range_with_len, get_or-map-range_with_len}
use Rattle.std.proofs.lemmas.Bool.{cases_lt, le-ltb, and_left}
use Rattle.matching.specs.Counts.{sum, count_of, one_if}
use Rattle.matching.specs.Words.{word_of}
use Rattle.photo.specs.declared.Photograph.{Photograph}
use Rattle.printed.specs.Columns.{column_of, image_columns}
use Rattle.printed.specs.Gathered.{image_of, width_of}
use Rattle.printed.specs.declared.image.Column.{Column}

-- a row of a word, as it is shifted to its place: few are so high that a bit is lost
row_is : (b : Bool) (y : ℕ) → y < 36 → (one_if b * 2 ^ y % 2 ^ 64 ≡ one_if b * 2 ^ y) × (one_if b * 2 ^ y ≤ 2 ^ 36)
row_is b y h =
    let low : 2 ^ y ≤ 2 ^ 36 = pow-le-pow_right {n = 2} (omega arith) {i = y} {j = 36} (omega arith) in
    let small : one_if b * 2 ^ y ≤ 2 ^ 36 = at_most b in
    (omega arith, small)
  where
    at_most : (b : Bool) → one_if b * 2 ^ y ≤ 2 ^ 36
    at_most true = omega (arith, pow-le-pow_right {n = 2} (omega arith) {i = y} {j = 36} (omega arith))
    at_most false = omega arith

pub row_small : (b : Bool) (y : ℕ) → y < 36 → one_if b * 2 ^ y % 2 ^ 64 ≤ 2 ^ 36
row_small b y h = let r = row_is b y h in omega (arith, r.0, r.1)

-- the word of some rows is a sum over them
pub row_sum : (n : ℕ) (p : ℕ → Bool) → n ≤ 36 → sum n (λ y. one_if (p y) * 2 ^ y % 2 ^ 64) ≡ word_of n p
unfolding sum word_of
row_sum zero p h = refl
row_sum (suc n) p h = omega (arith, row_sum n p (omega arith), (row_is (p n) n (omega arith)).0)

-- right of the photograph nothing is black
pub white_beyond : (photo : Photograph) (x : ℕ) → width_of photo ≤ x → (y : ℕ) → image_of photo x y ≡ false
white_beyond photo x h y =
    and_left (ltb x (width_of photo) && ltb y photo.rows) _ (and_left (ltb x (width_of photo)) (ltb y photo.rows) (le-ltb x (width_of photo) h))

word_white : (n : ℕ) (p : ℕ → Bool) → ((y : ℕ) → p y ≡ false) → word_of n p ≡ 0
unfolding word_of
word_white zero p w = refl
word_white (suc n) p w = (λ i. one_if (w n i) * 2 ^ n + word_white n p w i) ∙ omega arith

count_white : (n : ℕ) (p : ℕ → Bool) → ((y : ℕ) → p y ≡ false) → count_of n p ≡ 0
unfolding sum
count_white zero p w = refl
count_white (suc n) p w = omega (arith, count_white n p w, ap one_if (w n))

abbrev pub white : Column
white = record { word = 0; black = 0 }

pub column_at : (photo : Photograph) (rows x : ℕ) → get_or (image_columns (image_of photo) rows (width_of photo)) x white ≡ column_of (image_of photo) rows x
column_at photo rows x =
    let f : ℕ → Column = column_of (image_of photo) rows in
    ⊎_elim
    (λ lt. get_or-map-range_with_len f 0 (width_of photo) x x white lt (omega arith))
    (λ le.
    let none = white_beyond photo x le in
    get_or-eq_default (image_columns (image_of photo) rows (width_of photo)) white (omega (arith, length-map-range_with_len f 0 (width_of photo)))
    ∙ (λ i. record { word = sym (word_white rows (image_of photo x) none) i; black = sym (count_white rows (image_of photo x) none) i }))
    (cases_lt x (width_of photo))
