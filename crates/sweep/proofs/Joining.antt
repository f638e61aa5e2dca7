-- Joining what templates bring, one after another. Assumes nothing.
use Rattle.std.proofs.Common.{◌≡◌, ℕ, zero, suc, ◌+◌, cond, fold, sym, ap, ◌∙◌, add-zero, add-one, arith}
use Rattle.std.specs.List.{range_with_len}
use Rattle.paths.specs.Combining.{Rule}
use Rattle.paths.specs.Sweep.{joined, changed}
use Rattle.sweep.specs.declared.places.Joined.{Joined}

module _ {X : Type 0} (r : Rule X) (f : ℕ → X) where
  -- the join with what one more template brings
  abbrev pub next : Joined X → ℕ → Joined X
  next j t =
      record { value = r.join j.value (f t); last = cond (r.same (r.join j.value (f t)) j.value) j.last t }

  -- the join of what the first n templates bring, and the last of them that changed it
  abbrev pub sofar : ℕ → Joined X
  sofar n = record { value = joined r f n; last = changed r f n }

  one_more : (a : ℕ) → next (sofar a) a ≡ sofar (a + 1)
  unfolding joined changed
  one_more a = ap sofar (sym (add-one a))

  from_there : (a n : ℕ) → fold next (sofar a) (range_with_len a n) ≡ sofar (a + n)
  from_there a zero = ap sofar (sym (add-zero a))
  from_there a (suc n) =
      let there : a + 1 + n ≡ a + suc n = omega arith in
      ap (λ j. fold next j (range_with_len (a + 1) n)) (one_more a) ∙ from_there (a + 1) n ∙ ap sofar there

  pub folded : (j : Joined X) → j ≡ record { value = r.none; last = 0 } → (n : ℕ) → fold next j (range_with_len 0 n) ≡ sofar n
  unfolding joined changed
  folded j e n =
      let there : 0 + n ≡ n = omega arith in
      ap (λ k. fold next k (range_with_len 0 n)) e ∙ from_there 0 n ∙ ap sofar there
