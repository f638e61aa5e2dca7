-- Columns of a face: where their words lie, and how much they can earn. Assumes nothing.
use Rattle.std.proofs.Common.{◌≡◌, ℕ, zero, suc, sym, refl, map, ◌+◌, ◌*◌, ◌/◌, ◌^◌, ◌<◌, ◌≤◌, Bool, true, ◌&&◌, leb, List, [], ◌∷◌, length, get_or, ℤ, pos, ◌+ℤ◌, ◌*ℤ◌, w64, SFits, to_z, of_z, ap, ◌∙◌, subst, mul-add, add-one, arith}
use lib.Bits.{bit_and}
use lib.Count.{ones}
use Rattle.std.proofs.lemmas.Nat.{mul-add-lt, and_le_l, ones-le}
use Rattle.std.proofs.lemmas.List.FromFn.{length-map-range_with_len, get_or-map-range_with_len}
use Rattle.std.specs.List.{range_with_len}
use Rattle.std.proofs.lemmas.Bool.{ltb-true, le-leb, and_from}
use Rattle.octets.specs.Numbers.{u32_at}
use Rattle.octets.proofs.Bits.{bits_below}
use Rattle.octets.proofs.Stretches.{u32_between}
use Rattle.face.specs.Fields.{count, levels, height, gamma, beta, box_width, columns_before, column_start, word_start, columns_there}
use Rattle.face.specs.Laid.{FaceLaid, column_word}
use Rattle.face.proofs.Columns.{columns_few, columns_none, columns_more, columns_mono, starts_mono}
use Rattle.matching.specs.Column.{gain}
use Rattle.matching.specs.Counts.{sum, sum_signed, count_of}
use Rattle.matching.specs.Printed.{Image, rows, base, black_count, ink, value_of, free_rows, column_pixel, column_over_black}
use Rattle.matching.specs.Words.{word_of}
use Rattle.matching.proofs.Column.{column_value_within}
use Rattle.matching.proofs.Lawful.{base_within}
use Rattle.matching.proofs.Ranges.{Within, within_more, gain_within, sum_within, sum_most}
use Rattle.matching.proofs.Rows.{count_le}
use Rattle.matching.proofs.Sums.{sum_signed_same, times_within}
use Rattle.matching.proofs.Words.{matched, ones_counted}
use Rattle.printed.proofs.Adding.{total}
use Rattle.printed.specs.Tabulated.{template_of, face_templates}
use Rattle.printed.specs.Tables.{weights_of, column_gain, strip_words, strip_pixels, strip_worth}

module _ (face : List ℕ) where
  pub weights_length : length (weights_of face) ≡ levels face
  weights_length = length-map-range_with_len (gamma face) 0 (levels face)

  pub weight_is : (l : ℕ) → l < levels face → (d : ℤ) → get_or (weights_of face) l d ≡ gamma face l
  weight_is l h d = get_or-map-range_with_len (gamma face) 0 (levels face) l l d h (omega arith)

  -- the widths of the templates in their order add up to all columns
  widths_of : (ts : List ℕ) → map (λ p. p.width) (map (template_of face) ts) ≡ map (box_width face) ts
  widths_of [] = refl
  widths_of (t ∷ ts) = ap (λ ws. box_width face t ∷ ws) (widths_of ts)

  pub widths : map (λ p. p.width) (face_templates face) ≡ map (box_width face) (range_with_len 0 (count face))
  widths = widths_of (range_with_len 0 (count face))

  pub widths_sum : (n : ℕ) → sum n (box_width face) ≡ columns_before face n
  unfolding sum
  widths_sum zero = sym (columns_none face)
  widths_sum (suc n) = ap (λ q. q + box_width face n) (widths_sum n) ∙ sym (columns_more face n) ∙ ap (columns_before face) (add-one n)

  module _ (laid : FaceLaid face) where
    abbrev all : ℕ
    all = columns_before face (count face)

    pub all_few : all ≤ 65536
    all_few = columns_few face (count face) laid (omega arith)

    pub box_there : (t : ℕ) → t < count face → columns_before face t + box_width face t ≤ all
    box_there t h = omega (arith, columns_more face t, columns_mono face (t + 1) (count face) (omega arith))

    -- so many columns from the first on lie in the bytes
    module _ (first width : ℕ) (there : first + width ≤ all) where
      strip_inside : column_start face (first + width) ≤ length face
      strip_inside = omega (arith, laid.ends, starts_mono face (first + width) all there)

      pub strip_there : columns_there face first (first + width) ≡ true
      strip_there = and_from (leb first (first + width)) (leb (column_start face (first + width)) (length face)) (le-leb first (first + width) (omega arith)) (le-leb (column_start face (first + width)) (length face) strip_inside)

      -- the word of a level in a column
      pub strip_word : (c l : ℕ) → c < width → l < levels face → u32_at (strip_words face first width) (4 * (levels face * c + l)) ≡ column_word face (first + c) l
      strip_word c l within h =
          let L = levels face in
          let a : ℕ = column_start face first in
          let b : ℕ = column_start face (first + width) in
          let i : ℕ = 4 * (L * c + l) in
          let to = mul-add L first width in
          let at = mul-add L first c in
          let room : L * c + l < L * width = omega (arith, mul-add-lt c L l width within h) in
          let e : a + i ≡ word_start face (L * (first + c) + l) = omega arith in
          u32_between face a b i (omega arith) strip_inside ∙ ap (u32_at face) e

    module _ (column : ℕ) (there : column < all) where
      below : (l : ℕ) → l < levels face → column_word face column l < 2 ^ height face
      below l h =
          ltb-true (column_word face column l) (2 ^ height face)
          ((bits_below (column_word face column l) (height face)).1 (laid.columns_laid column l there h).inside)

      pub ink_is : (l : ℕ) → l < levels face → ones (column_word face column l) ≡ ink face column l
      ink_is l h = ones_counted (height face) (column_word face column l) (below l h)

      pub ink_few : (l : ℕ) → ink face column l ≤ 32
      ink_few l = omega (arith, count_le (height face) (column_pixel face column l), laid.high.1)

      -- how much a level earns over a word of the image, and a column
      over_few : (word l : ℕ) → l < levels face → ones (bit_and (column_word face column l) word) ≤ 32
      over_few word l h =
          omega (arith, laid.high.1, ones-le (height face) (bit_and (column_word face column l) word) (omega (arith, below l h, and_le_l (column_word face column l) word)))

      pub level_small : (word l : ℕ) → l < levels face → Within 32000 (gamma face l *ℤ pos (ones (bit_and (column_word face column l) word)))
      level_small word l h =
          let k : ℕ = ones (bit_and (column_word face column l) word) in
          let g = (laid.levels_laid l h).over_black in
          within_more (1000 * k) 32000 _ (omega (arith, over_few word l h)) (times_within (gamma face l) 1000 k g.0 g.1)

      gain_small : (word : ℕ) → Within 128000 (column_gain face column word)
      gain_small word =
          let k : ℕ → ℕ = λ l. ones (bit_and (column_word face column l) word) in
          within_more (1000 * sum (levels face) k) 128000 _ (omega (arith, laid.levelled.1, sum_most (levels face) 32 k (λ l h. over_few word l h)))
          (gain_within (gamma face) 1000 (levels face) k (λ l h. (laid.levels_laid l h).over_black))

      gain_is : (image : ℕ → Bool) (s : ℕ) → s ≤ 4 → column_gain face column (word_of (rows face) image / 2 ^ s) ≡ gain (gamma face) (levels face) (λ l. count_of (height face) (λ i. column_pixel face column l i && image (i + s)))
      gain_is image s low =
          sum_signed_same (levels face) _ _ (λ l h. ap (λ k. gamma face l *ℤ pos k) (matched (column_word face column l) (height face) s (rows face) image (below l h) (omega arith)))

    -- how large a value can be
    pub value_small : (column black : ℕ) → black ≤ 36 → Within 144000 (value_of face column black)
    unfolding value_of
    value_small column black h =
        within_more (levels face * (1000 * 36)) 144000 _ (omega (arith, laid.levelled.1))
        (column_value_within (gamma face) (ink face column) (free_rows face column) 1000 36 (levels face) black (λ l p. (laid.levels_laid l p).over_black) h)

    -- what a template earns with what its columns do
    module _ (t : ℕ) (known : t < count face) (f : ℕ → ℤ) (small : (c : ℕ) → c < box_width face t → Within 144000 (f c)) where
      pub box_total : (a z : ℤ) → a ≡ base face t → z ≡ sum_signed (box_width face t) f → SFits w64 (to_z w64 (of_z w64 a) +ℤ to_z w64 (of_z w64 z)) × (to_z w64 (of_z w64 (to_z w64 (of_z w64 a) +ℤ to_z w64 (of_z w64 z))) ≡ base face t +ℤ sum_signed (box_width face t) f)
      box_total a z p q =
          total 1034000 (box_width face t * 144000) a z (base face t) (sum_signed (box_width face t) f) p q (base_within face laid t known) (sum_within (box_width face t) 144000 f small)
          (omega (arith, (laid.templates_laid t known).boxed))

    -- what a column of a box can earn over a column of an image, and what it does earn a column of an image
    pub can_small : (image : Image) (x t c : ℕ) → Within 144000 (value_of face (columns_before face t + c) (black_count face image (x + c)))
    can_small image x t c = value_small (columns_before face t + c) (black_count face image (x + c)) (omega (arith, count_le (rows face) (image (x + c)), laid.high.1))

    module _ (t : ℕ) (known : t < count face) (image : Image) (x s c : ℕ) (within : c < box_width face t) (low : s ≤ 4) where
      there : columns_before face t + c < all
      there = omega (arith, box_there t known)

      pub over_is : column_gain face (columns_before face t + c) (word_of (rows face) (image (x + c)) / 2 ^ s) ≡ gain (gamma face) (levels face) (column_over_black face image x t s c)
      over_is = gain_is (columns_before face t + c) there (image (x + c)) s low

      pub over_small : Within 144000 (gain (gamma face) (levels face) (column_over_black face image x t s c))
      over_small = within_more 128000 144000 _ (omega arith) (subst (Within 128000) over_is (gain_small (columns_before face t + c) there (word_of (rows face) (image (x + c)) / 2 ^ s)))

    -- how many pixels a level has in some columns, and what they are worth
    module _ (first width : ℕ) (there : first + width ≤ all) where
      pub pixels_few : (l : ℕ) → strip_pixels face first width l ≤ width * 32
      pixels_few l = sum_most width 32 (λ c. ink face (first + c) l) (λ c h. ink_few (first + c) (omega arith) l)

      pub worth_small : (l : ℕ) → l < levels face → Within (2 ^ 32) (beta face l *ℤ pos (strip_pixels face first width l))
      worth_small l h =
          let k : ℕ = strip_pixels face first width l in
          let b = (laid.levels_laid l h).per_pixel in
          within_more (1000 * k) (2 ^ 32) _ (omega (arith, pixels_few l, all_few)) (times_within (beta face l) 1000 k b.0 b.1)

      pub worth_within : Within (4 * 2 ^ 32) (strip_worth face first width)
      worth_within =
          within_more (levels face * 2 ^ 32) (4 * 2 ^ 32) _ (omega (arith, laid.levelled.1))
          (sum_within (levels face) (2 ^ 32) (λ l. beta face l *ℤ pos (strip_pixels face first width l)) worth_small)
