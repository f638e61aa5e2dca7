-- What a chain over a range sums to, and that the sum fits. Assumes nothing.
use Rattle.std.proofs.Common.{◌≡◌, ℕ, zero, suc, ◌+◌, ◌*◌, ◌^◌, ◌<◌, ◌≤◌, List, [], ◌∷◌, ◌++◌, map, length, take, Option, ℤ, pos, ◌+ℤ◌, sym, refl, ap, ◌∙◌, subst, arith, length-append, w64, SFits}
use mathlib.Core.List.{map-id}
use Rattle.std.proofs.Math.Seq.{take-append_seam}
use Rattle.std.proofs.iter.Yields.{nat_range_steps, gives_along, gives_Drains}
use Rattle.std.proofs.lemmas.Nat.{mul-le}
use Rattle.std.proofs.lemmas.Iterator.{YieldsList, YieldsList-from_map, YieldsList-from_range, maps}
use Rattle.std.proofs.lemmas.Iterator.Consumers.{sum_from_yields_List, fits_from_yields_list}
use Rattle.std.proofs.lemmas.List.FromFn.{length-map-range_with_len, take-map-range_with_len, map-range_with_len_more}
use Rattle.std.proofs.lemmas.List.Sums.{fold_push, sum_by_push}
use denote.Param.Members.{Mut, Called, MutLaws, FnLaws}
use Rattle.std.specs.Iterator.Adapters.{map_source, map_callee}
use Rattle.std.specs.declared.iter.Map.{Map}
use Rattle.std.specs.declared.ops.Range.{Range}
use Rattle.std.specs.Bool.{⊤}
use Rattle.std.specs.Iterator.{Drains, Yields}
use Rattle.std.specs.Iterator.Runs.{EachRunFrom, YieldsRun}
use Rattle.std.specs.List.{range_with_len, fold, sum as list_sum}
use Rattle.matching.specs.Counts.{sum, sum_signed}
use Rattle.matching.proofs.Ranges.{Within, sum_within, sum_most}
use Rattle.printed.proofs.Adding.{fits_within}

more : {X : Type 0} (f : ℕ → X) (n : ℕ) → map f (range_with_len 0 (suc n)) ≡ map f (range_with_len 0 n) ++ f n ∷ []
more f n =
    let e : suc n ≡ n + 1 = omega arith in
    ap (λ k. map f (range_with_len 0 k)) e ∙ map-range_with_len_more f 0 n n (omega arith)

sum_over : (f : ℕ → ℕ) (n : ℕ) → list_sum (map f (range_with_len 0 n)) ≡ sum n f
unfolding sum
sum_over f zero = refl
sum_over f (suc n) = ap list_sum (more f n) ∙ sum_by_push (λ x. x) (map f (range_with_len 0 n)) (f n) ∙ ap (λ q. q + f n) (sum_over f n)

signed_over : (f : ℕ → ℤ) (n : ℕ) → fold ◌+ℤ◌ (pos 0) (map f (range_with_len 0 n)) ≡ sum_signed n f
unfolding sum_signed
signed_over f zero = refl
signed_over f (suc n) = ap (fold ◌+ℤ◌ (pos 0)) (more f n) ∙ fold_push ◌+ℤ◌ (pos 0) (map f (range_with_len 0 n)) (f n) ∙ ap (λ q. q +ℤ f n) (signed_over f n)

-- the items so far are those of the first indices
front : {X : Type 0} (f : ℕ → X) (n : ℕ) (seen rest : List X) → map f (range_with_len 0 n) ≡ map (λ x. x) seen ++ rest → (length seen ≤ n) × (seen ≡ map f (range_with_len 0 (length seen)))
front f n seen rest e =
    let all : map f (range_with_len 0 n) ≡ seen ++ rest = e ∙ ap (λ q. q ++ rest) (map-id seen) in
    let few : length seen ≤ n = omega (arith, ap length all, length-append seen rest, length-map-range_with_len f 0 n) in
    (few, sym (take-append_seam seen rest) ∙ ap (take (length seen)) (sym all) ∙ take-map-range_with_len f 0 n (length seen) few)

-- a call of a closure that keeps its state and computes f
pub computed : {F B : Type 0} (g : Mut F (ℕ × Unit {0}) B) {p : F} (f : ℕ → B) → MutLaws g → FnLaws g → ((x : ℕ) (r : B) → g.post p (x, tt) r → r ≡ f x) → (x : ℕ) (r : B) (q : F) → Called g p (x, tt) r q → (q ≡ p) × (r ≡ f x)
computed g {p} f laws stays told x r q k = (stays.step_stays p (x, tt) r q k, told x r ((laws.post_iff p (x, tt) r).1 (q, k)))

-- what the chain yields, from a source and a closure that computes f
module _ {F B : Type 0} (g : Mut F (ℕ × Unit {0}) B) (f : ℕ → B) (n : ℕ) {m : ℕ} {s : Map (Range ℕ) F} {p : F} (source : map_source s ≡ record { start = 0; end = m }) (wide : m ≡ n) (closure : map_callee s ≡ p) (calls : (x : ℕ) (r : B) (q : F) → Called g p (x, tt) r q → (q ≡ p) × (r ≡ f x)) where
  pub mapped : YieldsList (maps nat_range_steps g) (λ r. r) s (map f (range_with_len 0 n))
  mapped = YieldsList-from_map g f (YieldsList-from_range 0 m n source (omega arith)) closure calls

module _ {S : Type 0} {steps : S → Option ℕ → S → Type 0} (f : ℕ → ℕ) (n : ℕ) (s : S) (road : YieldsList steps (λ x. x) s (map f (range_with_len 0 n))) where
  pub road_summed : (r : ℕ) → ((xs : List ℕ) × (⊤ → Drains steps s xs) × (r ≡ fold (λ a x. a + x) 0 xs)) → r ≡ sum n f
  road_summed r d = sum_from_yields_List s r d road ∙ sum_over f n

  pub road_fits : (b top : ℕ) → ((i : ℕ) → i < n → f i ≤ b) → n * b < top → EachRunFrom steps s (λ p. fold (λ a x. a + x) 0 p.items < top)
  road_fits b top few h = fits_from_yields_list s top road (omega (arith, sum_over f n, sum_most n b f few))

-- sums of numbers
module _ {F : Type 0} (g : Mut F (ℕ × Unit {0}) ℕ) (f : ℕ → ℕ) (n : ℕ) {m : ℕ} {s : Map (Range ℕ) F} {p : F} (source : map_source s ≡ record { start = 0; end = m }) (wide : m ≡ n) (closure : map_callee s ≡ p) (calls : (x r : ℕ) (q : F) → Called g p (x, tt) r q → (q ≡ p) × (r ≡ f x)) where
  pub summed : (r : ℕ) → ((xs : List ℕ) × (⊤ → Drains (maps nat_range_steps g) s xs) × (r ≡ fold (λ a x. a + x) 0 xs)) → r ≡ sum n f
  summed = road_summed f n s (mapped g f n source wide closure calls)

  pub sum_fits : (b top : ℕ) → ((i : ℕ) → i < n → f i ≤ b) → n * b < top → EachRunFrom (maps nat_range_steps g) s (λ p. fold (λ a x. a + x) 0 p.items < top)
  sum_fits = road_fits f n s (mapped g f n source wide closure calls)

-- sums of signed numbers
module _ {F : Type 0} (g : Mut F (ℕ × Unit {0}) ℤ) (f : ℕ → ℤ) (n : ℕ) {m : ℕ} {s : Map (Range ℕ) F} {p : F} (source : map_source s ≡ record { start = 0; end = m }) (wide : m ≡ n) (closure : map_callee s ≡ p) (calls : (x : ℕ) (r : ℤ) (q : F) → Called g p (x, tt) r q → (q ≡ p) × (r ≡ f x)) where
  abbrev steps : Map (Range ℕ) F → Option ℤ → Map (Range ℕ) F → Type 0
  steps = maps nat_range_steps g

  road : YieldsList steps (λ r. r) s (map f (range_with_len 0 n))
  road = mapped g f n source wide closure calls

  pub signed_summed : (r : ℤ) → ((xs : List ℤ) × (⊤ → Drains steps s xs) × (r ≡ fold ◌+ℤ◌ (pos 0) xs)) → r ≡ sum_signed n f
  signed_summed r d = d.2 ∙ ap (fold ◌+ℤ◌ (pos 0)) (sym (map-id d.0) ∙ gives_Drains steps (λ x. x) d.0 (map f (range_with_len 0 n)) s road.runs (d.1 tt)) ∙ signed_over f n

  pub signed_fits : (b top : ℕ) → ((i : ℕ) → i < n → Within b (f i)) → n ≤ top → top * b < 2 ^ 63 → EachRunFrom steps s (λ p. SFits w64 (fold ◌+ℤ◌ (pos 0) p.items))
  unfolding YieldsRun
  signed_fits b top small few h = λ p _ at.
      gives_along steps (λ x. x) (λ xs. SFits w64 (fold ◌+ℤ◌ (pos 0) xs)) (map f (range_with_len 0 n)) s road.runs
      (λ seen rest e.
      let at_front = front f n seen rest e in
      let k : ℕ = length seen in
      let value : fold ◌+ℤ◌ (pos 0) seen ≡ sum_signed k f = ap (fold ◌+ℤ◌ (pos 0)) at_front.1 ∙ signed_over f k in
      let within : Within (k * b) (sum_signed k f) = sum_within k b f (λ i l. small i (omega (arith, at_front.0))) in
      let size : k * b ≤ top * b = mul-le k b top b (omega (arith, at_front.0)) (omega arith) in
      subst (SFits w64) (sym value) (fits_within (k * b) (sum_signed k f) (omega arith) within))
      p.items p.gave.0.0 (subst (λ u. Yields steps u p.items p.gave.0.0) at p.gave.0.1)
