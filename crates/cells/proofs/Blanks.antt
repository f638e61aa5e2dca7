-- Blank cells stand before those that are left as they were. Assumes nothing.
use Rattle.std.proofs.Common.{◌≡◌, ℕ, zero, suc, ◌≤◌, min, List, [], ◌∷◌, ◌++◌, length, get_or, set, drop, refl, sym, ap, ◌∙◌, ⊎_elim, arith, append_assoc, add-one, drop-cons}
use Rattle.std.proofs.Math.ListN.{replicate}
use Rattle.std.proofs.Math.Seq.{set-append_seam}
use Rattle.std.proofs.lemmas.Bool.{cases_lt}
use Rattle.std.proofs.lemmas.List.{replicate_more, length-replicate, set_past, length-set}
use Rattle.cells.specs.Blank.{blank}
use Rattle.cells.specs.Layout.{blanked}
use Rattle.cells.specs.declared.cell.Cell.{Cell}

-- where there are as many cells
front : (n : ℕ) (cells : List Cell) → n ≤ length cells → blanked n cells ≡ replicate n blank ++ drop n cells
unfolding blanked
front zero cells h = refl
front (suc n) cells h =
    (λ i. set (front n cells (omega arith) i) n blank)
    ∙ (λ i. set (replicate n blank ++ drop-cons cells n blank (omega arith) i) n blank)
    ∙ (λ i. set (replicate n blank ++ (get_or cells n blank ∷ drop (suc n) cells)) (sym (length-replicate n blank) i) blank)
    ∙ set-append_seam (replicate n blank) _ (drop (suc n) cells) blank
    ∙ sym (append_assoc (replicate n blank) (blank ∷ []) (drop (suc n) cells))
    ∙ ap (λ xs. xs ++ drop (suc n) cells) (replicate_more n blank ∙ ap (λ k. replicate k blank) (add-one n))

pub length_blanked : (n : ℕ) (cells : List Cell) → length (blanked n cells) ≡ length cells
unfolding blanked
length_blanked zero cells = refl
length_blanked (suc n) cells = length-set (blanked n cells) n blank ∙ length_blanked n cells

-- what is written past the last cell is lost
past : (n : ℕ) (cells : List Cell) → length cells ≤ n → blanked n cells ≡ blanked (length cells) cells
unfolding blanked
past zero cells h = let none : 0 ≡ length cells = omega arith in ap (λ k. blanked k cells) none
past (suc n) cells h =
    ⊎_elim
    (λ lt. let all : suc n ≡ length cells = omega arith in ap (λ k. blanked k cells) all)
    (λ le. set_past (blanked n cells) n blank (omega (arith, length_blanked n cells)) ∙ past n cells le)
    (cases_lt n (length cells))

pub blanked_front : (n : ℕ) (cells : List Cell) → blanked n cells ≡ replicate (min n (length cells)) blank ++ drop (min n (length cells)) cells
blanked_front n cells =
    ⊎_elim
    (λ lt. let few : n ≡ min n (length cells) = omega arith in ap (λ k. blanked k cells) few ∙ front (min n (length cells)) cells (omega arith))
    (λ le. let all : length cells ≡ min n (length cells) = omega arith in past n cells le ∙ ap (λ k. blanked k cells) all ∙ front (min n (length cells)) cells (omega arith))
    (cases_lt n (length cells))
