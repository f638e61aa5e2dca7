-- The cells on the way of a sweep: places behind hold what a sweep gives them, all else is as it was. Assumes nothing.
use Rattle.std.proofs.Common.{◌≡◌, ℕ, zero, suc, ◌+◌, ◌<◌, ◌≤◌, List, length, get_or, sym, refl, ap, ◌∙◌, ⊎_elim, add-one, arith}
use mathlib.Core.Path.{fun_ext}
use Rattle.std.proofs.lemmas.Bool.{cases_lt}
use Rattle.cells.proofs.Views.{length_with_cell, widths_positive, place_same, place_other, node_past_place}
use Rattle.cells.specs.Layout.{needed, place_index, place_cell, node_cell, score_in, with_place}
use Rattle.cells.specs.Line.{widths}
use Rattle.cells.specs.declared.cell.Cell.{Cell}
use Rattle.cells.specs.declared.line.Line.{Line}
use Rattle.paths.proofs.Basics.{work_same, work_last_same, value_start, value_works}
use Rattle.paths.proofs.Joins.{joins}
use Rattle.paths.specs.Combining.{Rule, RuleLawful}
use Rattle.paths.specs.Sweep.{work, work_last, place_value, place_last}
use Rattle.sweep.specs.Swept.{values_in, swept_cell, swept_to, swept_on, SweepJoins}

module _ {X : Type 0} (r : Rule X) (stored : X → ℕ → Cell) (l : Line) (cells : List Cell) where
  pub length_swept : (n : ℕ) → length (swept_to r stored l cells n) ≡ length cells
  unfolding swept_to
  length_swept zero = refl
  length_swept (suc n) = length_with_cell (swept_to r stored l cells n) (place_index l n) _ ∙ length_swept n

  pub node_swept : (n x t : ℕ) → node_cell l (swept_to r stored l cells n) x t ≡ node_cell l cells x t
  unfolding swept_to
  node_swept zero x t = refl
  node_swept (suc n) x t = node_past_place l (swept_to r stored l cells n) _ n x t ∙ node_swept n x t

  pub scores_swept : (n : ℕ) → score_in l (swept_to r stored l cells n) ≡ score_in l cells
  scores_swept n = fun_ext (λ x. fun_ext (λ t. ap (λ c. c.score) (node_swept n x t)))

  pub place_unswept : (n q : ℕ) → n ≤ q → place_cell l (swept_to r stored l cells n) q ≡ place_cell l cells q
  unfolding swept_to
  place_unswept zero q h = refl
  place_unswept (suc n) q h =
      place_other l (swept_to r stored l cells n) _ n q (λ e. omega arith) ∙ place_unswept n q (omega arith)

  module _ (enough : needed l ≤ length cells) where
    pub place_swept : (n q : ℕ) → q < n → n ≤ l.width + 1 → place_cell l (swept_to r stored l cells n) q ≡ swept_cell r stored (widths l) (score_in l cells) q
    unfolding swept_to
    place_swept zero q lt le = absurd (omega arith)
    place_swept (suc n) q lt le = ⊎_elim
        (λ (h : q < n). place_other l (swept_to r stored l cells n) _ n q (λ e. omega arith) ∙ place_swept n q h (omega arith))
        (λ (h : n ≤ q).
        let e : n ≡ q = omega arith in
        ap (λ k. place_cell l (with_place l (swept_to r stored l cells n) n (swept_cell r stored (widths l) (score_in l cells) n)) k) (sym e)
        ∙ place_same l (swept_to r stored l cells n) (swept_cell r stored (widths l) (score_in l cells) n) (omega (arith, length_swept n)) n (omega arith)
        ∙ ap (swept_cell r stored (widths l) (score_in l cells)) e)
        (cases_lt q n)

    module _ (held : Cell → X) (kept : (v : X) (last : ℕ) → held (stored v last) ≡ v) where
      swept_cell_held : (q : ℕ) → held (swept_cell r stored (widths l) (score_in l cells) q) ≡ place_value r (widths l) (score_in l cells) q
      swept_cell_held zero = kept r.start 0 ∙ sym (value_start r (widths l) (widths_positive l) (score_in l cells))
      swept_cell_held (suc q) = kept _ _

      pub value_swept : (n q : ℕ) → q < n → n ≤ l.width + 1 → values_in held l (swept_to r stored l cells n) q ≡ place_value r (widths l) (score_in l cells) q
      value_swept n q lt le = ap held (place_swept n q lt le) ∙ swept_cell_held q

      -- working the next place gives what the sweep gives it
      module _ (p : ℕ) (le : suc p ≤ l.width) where
        same_scores : (x t : ℕ) → t < length (widths l) → x + get_or (widths l) t 0 ≡ suc p → score_in l (swept_to r stored l cells (suc p)) x t ≡ score_in l cells x t
        same_scores x t known e = ap (λ c. c.score) (node_swept (suc p) x t)

        pub next_value : work r (widths l) (score_in l (swept_to r stored l cells (suc p))) (values_in held l (swept_to r stored l cells (suc p))) (suc p) ≡ place_value r (widths l) (score_in l cells) (suc p)
        next_value =
            work_same r (widths l) (widths_positive l) _ (score_in l cells) _ (place_value r (widths l) (score_in l cells)) (suc p)
            (λ q lt. value_swept (suc p) q lt (omega arith)) same_scores
            ∙ sym (value_works r (widths l) (widths_positive l) (score_in l cells) p)

        pub next_last : work_last r (widths l) (score_in l (swept_to r stored l cells (suc p))) (values_in held l (swept_to r stored l cells (suc p))) (suc p) ≡ place_last r (widths l) (score_in l cells) (suc p)
        next_last =
            work_last_same r (widths l) (widths_positive l) _ (score_in l cells) _ (place_value r (widths l) (score_in l cells)) (suc p)
            (λ q lt. value_swept (suc p) q lt (omega arith)) same_scores

      -- one place more is swept
      swept_suc : (p : ℕ) → p ≤ l.width → swept_on r held stored l (swept_to r stored l cells p) p ≡ swept_to r stored l cells (suc p)
      unfolding swept_to
      swept_suc zero le = refl
      swept_suc (suc p) le = λ i. with_place l (swept_to r stored l cells (suc p)) (suc p) (stored (next_value p le i) (next_last p le i))

      pub swept_next : (p : ℕ) → p ≤ l.width → swept_on r held stored l (swept_to r stored l cells p) p ≡ swept_to r stored l cells (p + 1)
      swept_next p le = swept_suc p le ∙ ap (swept_to r stored l cells) (sym (add-one p))

      -- a sweep gives each place the join over all paths that lead there
      pub sweep_joins : RuleLawful X r → SweepJoins r held stored l cells
      sweep_joins lawful p le =
          let j = joins r lawful (widths l) (widths_positive l) (score_in l cells) p in
          record { paths = j.paths; each_once = j.each_once; value = value_swept (l.width + 1) p (omega arith) (omega arith) ∙ j.value }
