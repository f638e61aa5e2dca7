-- The line of a face and an image is lawful: exact scores are not above bounds, and all lie in their range. Assumes nothing.
use Rattle.std.proofs.Common.{◌≡◌, ℕ, ◌+◌, ◌*◌, ◌<◌, ◌≤◌, Bool, true, false, ◌&&◌, List, ℤ, pos, ◌+ℤ◌, ◌*ℤ◌, ◌≤ℤ◌, ap, ◌∙◌, subst, arith}
use Rattle.std.proofs.lemmas.Nat.{mul-le}
use Rattle.std.proofs.lemmas.Int.{ints}
use Rattle.std.proofs.lemmas.Bool.{eqb-true}
use Rattle.face.specs.Fields.{count, levels, height, gamma, beta, box_width, prior, columns_before}
use Rattle.face.specs.Laid.{FaceLaid}
use Rattle.face.proofs.Columns.{column_there}
use Rattle.scorer.specs.Nodes.{node_known}
use Rattle.scorer.specs.Meaning.{Lawful, ScoresLawful, ShiftWithin}
use Rattle.matching.specs.Counts.{sum, sum_signed, one_if, lowest}
use Rattle.matching.specs.Column.{gain, Choice, IsColumnValue}
use Rattle.matching.specs.Printed.{Image, pixel, rows, ink, column_pixels, pixels, base, free_rows, value_of, column_over_black, over_black, score_at, exact_score, shift_of, black_count, bound_score, printed_meaning}
use Rattle.matching.proofs.Sums.{sum_signed_same, sum_signed_le, sum_le, sum_swap, sum_signed_swap, times_sum, greatest_is, lowest_is, greatest_at_lowest}
use Rattle.matching.proofs.Column.{column_value_is}
use Rattle.matching.proofs.Ranges.{Within, within_add, within_more, gain_within, sum_within, sum_most}
use Rattle.matching.proofs.Rows.{Apart, pixels_few, over_black_choice, count_le}

-- the sum by levels is the sum by box columns
pub score_by_columns : (face : List ℕ) (image : Image) (x t s : ℕ) → score_at face image x t s ≡ base face t +ℤ sum_signed (box_width face t) (λ c. gain (gamma face) (levels face) (column_over_black face image x t s c))
unfolding score_at
score_by_columns face image x t s =
    ap (λ q. base face t +ℤ q) (
    sum_signed_same (levels face) _ _ (λ l _. times_sum (gamma face l) (box_width face t) (λ c. column_over_black face image x t s c l))
    ∙ sum_signed_swap (levels face) (box_width face t) (λ l c. gamma face l *ℤ pos (column_over_black face image x t s c l))
    )

module _ (face : List ℕ) (laid : FaceLaid face) (t : ℕ) (there : t < count face) where
  -- the levels of a box column share no row
  levels_apart : (c : ℕ) → c < box_width face t → (i : ℕ) → i < height face → Apart (levels face) (λ l. pixel face t c l i)
  levels_apart c h i _ k l below within p q =
      (laid.columns_laid (columns_before face t + c) l (column_there face t c there h) within).alone k below i (eqb-true _ 1 q) (eqb-true _ 1 p)

  column_few : (c : ℕ) → c < box_width face t → sum (levels face) (column_pixels face t c) ≤ height face
  column_few c h = pixels_few (levels face) (height face) (pixel face t c) (levels_apart c h)

  boxed : box_width face t ≤ 32
  boxed = (laid.templates_laid t there).boxed

  high : height face ≤ 32
  high = laid.high.1

  area : box_width face t * height face ≤ 1024
  area = mul-le (box_width face t) (height face) 32 32 boxed high

  -- a box has at most 32 × 32 pixels
  pixels_in_all : sum (levels face) (pixels face t) ≤ 1024
  pixels_in_all =
      omega (arith, area, sum_swap (levels face) (box_width face t) (λ l c. column_pixels face t c l), sum_most (box_width face t) (height face) (λ c. sum (levels face) (column_pixels face t c)) column_few)

  gammas : (l : ℕ) → l < levels face → Within 1000 (gamma face l)
  gammas l h = (laid.levels_laid l h).over_black

  betas : (l : ℕ) → l < levels face → Within 1000 (beta face l)
  betas l h = (laid.levels_laid l h).per_pixel

  prior_within : Within 10000 (prior face t)
  prior_within =
      let w = (laid.templates_laid t there).weighed in
      (w.0, omega (arith, ints, w.1))

  pub base_within : Within 1034000 (base face t)
  base_within =
      within_more (10000 + 1000 * sum (levels face) (pixels face t)) 1034000 _ (omega (arith, pixels_in_all))
      (within_add 10000 _ (prior face t) _ prior_within (gain_within (beta face) 1000 (levels face) (pixels face t) betas))

  -- the value of a box column is the greatest that a choice earns, for every number of black pixels
  pub column_value_of : (c black : ℕ) → c < box_width face t → black ≤ rows face → IsColumnValue (gamma face) (ink face (columns_before face t + c)) (levels face) (free_rows face (columns_before face t + c)) black (value_of face (columns_before face t + c) black)
  unfolding value_of
  column_value_of c black h few =
      column_value_is (gamma face) (ink face (columns_before face t + c)) (free_rows face (columns_before face t + c)) (levels face) black (omega (arith, column_few c h))

  module _ (image : Image) (x : ℕ) where
    -- what lies over black in a box column is a choice
    column_choice : (s c : ℕ) → s ≤ 4 → c < box_width face t → Choice (column_pixels face t c) (levels face) (free_rows face (columns_before face t + c)) (black_count face image (x + c)) (column_over_black face image x t s c)
    column_choice s c low h = over_black_choice (levels face) (height face) (pixel face t c) (levels_apart c h) (image (x + c)) s low

    abbrev value : ℕ → ℤ
    value c = value_of face (columns_before face t + c) (black_count face image (x + c))

    -- the column's value is the greatest that a choice earns
    value_is : (c : ℕ) → c < box_width face t → IsColumnValue (gamma face) (column_pixels face t c) (levels face) (free_rows face (columns_before face t + c)) (black_count face image (x + c)) (value c)
    value_is c h = column_value_of c (black_count face image (x + c)) h (count_le (height face + 4) (image (x + c)))

    score_not_above : (s : ℕ) → s ≤ 4 → score_at face image x t s ≤ℤ bound_score face image x t
    unfolding bound_score
    score_not_above s low =
        let columns = sum_signed_le (box_width face t) (λ c. gain (gamma face) (levels face) (column_over_black face image x t s c)) value (λ c h. (value_is c h).none_above (column_over_black face image x t s c) (column_choice s c low h)) in
        omega (arith, ints, score_by_columns face image x t s, columns)

    over_few : (s : ℕ) → sum (levels face) (over_black face image x t s) ≤ 1024
    over_few s =
        omega (
          arith,
          pixels_in_all,
          sum_le (levels face) (over_black face image x t s) (pixels face t) (λ l _.
              sum_le (box_width face t) (λ c. column_over_black face image x t s c l) (λ c. column_pixels face t c l) (λ c _.
              sum_le (height face) (λ i. one_if (pixel face t c l i && image (x + c) (i + s))) (λ i. one_if (pixel face t c l i)) (λ i _. less (pixel face t c l i) (image (x + c) (i + s))))),
        )
      where
        less : (p b : Bool) → one_if (p && b) ≤ one_if p
        less true true = omega arith
        less true false = omega arith
        less false b = omega arith

    pub score_within : (s : ℕ) → Within 2058000 (score_at face image x t s)
    unfolding score_at
    score_within s =
        within_more (1034000 + 1000 * sum (levels face) (over_black face image x t s)) 2058000 _ (omega (arith, over_few s))
        (within_add 1034000 _ (base face t) _ base_within (gain_within (gamma face) 1000 (levels face) (over_black face image x t s) gammas))

    value_within : (c : ℕ) → c < box_width face t → Within 32000 (value c)
    value_within c h =
        let is = value_is c h in
        let k = is.choice in
        let few = sum_le (levels face) k (column_pixels face t c) is.allowed.few in
        subst (Within 32000) is.reached
        (within_more (1000 * sum (levels face) k) 32000 _ (omega (arith, few, column_few c h, high)) (gain_within (gamma face) 1000 (levels face) k gammas))

    pub bound_within : Within 2058000 (bound_score face image x t)
    unfolding bound_score
    bound_within =
        within_more (1034000 + box_width face t * 32000) 2058000 _ (omega (arith, boxed))
        (within_add 1034000 _ (base face t) _ base_within (sum_within (box_width face t) 32000 value value_within))

    exact_and_bound : ScoresLawful (exact_score face image x t) (bound_score face image x t)
    unfolding exact_score
    exact_and_bound =
        let best = greatest_is (score_at face image x t) 0 4 in
        let s : ℕ = 0 + best.at in
        let low : s ≤ 4 = omega (arith, best.within) in
        let w = score_within s in
        let b = bound_within in
        record {
          exact_within = (omega (arith, ints, best.reached, w.0), omega (arith, ints, best.reached, w.1));
          bound_within = (omega (arith, ints, b.0), omega (arith, ints, b.1));
          not_above = omega (arith, ints, best.reached, score_not_above s low);
        }

pub printed_lawful : (face : List ℕ) (image : Image) (width : ℕ) → FaceLaid face → 1 ≤ width → width ≤ 2048 → Lawful (printed_meaning face image width)
printed_lawful face image width laid some few = record {
  wide = (some, few);
  counted = laid.counted;
  set = λ t h. (laid.templates_laid t h).set;
  scored = λ x t n.
      exact_and_bound face laid t (node_known (printed_meaning face image width) x t n) image x;
}

pub shift_within : (face : List ℕ) (image : Image) (x t : ℕ) → ShiftWithin (shift_of face image x t)
shift_within face image x t =
    let low = (lowest_is (score_at face image x t) 4).within in
    (omega (arith, ints, low), omega (arith, ints, low))

-- the exact score is that of the lowest row that reaches it
pub exact_at_lowest : (face : List ℕ) (image : Image) (x t : ℕ) → exact_score face image x t ≡ score_at face image x t (lowest (score_at face image x t) 4)
unfolding exact_score
exact_at_lowest face image x t = greatest_at_lowest (score_at face image x t) 4
