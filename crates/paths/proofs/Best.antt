-- Totals with last templates tell the first best path to each place that a path leads to. Assumes nothing.
use Rattle.std.proofs.Common.{◌≡◌, ℕ, zero, suc, ◌-◌, ◌<◌, ◌≤◌, Bool, true, false, leb, ◌⊎◌, List, [], ◌∷◌, length, get_or, ℤ, pos, ◌+ℤ◌, ◌≤ℤ◌, ◌<ℤ◌, Some, None, Option, sym, refl, ap, ◌∙◌, subst, inl, inr, ⊎_elim, arith}
use Rattle.std.proofs.lemmas.Int.{ints, by_lt_z}
use Rattle.std.proofs.lemmas.Bool.{leb-true, le-leb, cases_lt, cases_order, cond-true, cond-false, cond_both}
use Rattle.std.proofs.lemmas.Option.{none-some}
use Rattle.std.specs.Int.{int_max}
use Rattle.std.specs.Option.{option_eq}
use Rattle.std.specs.Ordering.{int_eq}
use Rattle.paths.specs.Combining.{Rule, totals, greater}
use Rattle.paths.specs.Paths.{Positive, end_of, Leads, total, Earlier, FirstBest, OneFirstBest}
use Rattle.paths.specs.Sweep.{joined, changed, brings, place_value, place_last}
use Rattle.paths.specs.Totals.{last_node, follow_within, follow, TellsBest}
use Rattle.paths.specs.declared.Node.{Node}
use Rattle.paths.proofs.Basics.{value_start, value_works}
use Rattle.paths.proofs.Order.{same_node, only_first_best}
use Rattle.paths.proofs.Related.{by_places}

-- the greater of two totals is at least the first of them
greater_left : (a b : Option ℤ) (y : ℤ) → a ≡ Some y → (z : ℤ) × (greater a b ≡ Some z) × (y ≤ℤ z)
greater_left None b y e = absurd (none-some y e)
greater_left (Some x) None y e = (x, refl, let same : y ≡ x = cc in omega (arith, ints))
greater_left (Some x) (Some w) y e = (int_max x w, refl, let same : y ≡ x = cc in rw same (grind (arith, ints)))

-- and at least the second
greater_right : (a b : Option ℤ) (y : ℤ) → b ≡ Some y → (z : ℤ) × (greater a b ≡ Some z) × (y ≤ℤ z)
greater_right None b y e = (y, e, omega (arith, ints))
greater_right (Some x) None y e = absurd (none-some y e)
greater_right (Some x) (Some w) y e = (int_max x w, refl, let same : y ≡ w = cc in rw same (grind (arith, ints)))

-- the greater of two totals is the first of them, or the second, which is then above the first
greater_picks : (a b : Option ℤ) (z : ℤ) → greater a b ≡ Some z
    → ((a ≡ Some z) × (option_eq int_eq (greater a b) a ≡ true))
    ⊎ ((b ≡ Some z) × (option_eq int_eq (greater a b) a ≡ false) × ((y : ℤ) → a ≡ Some y → y <ℤ z))
greater_picks None None z e = absurd (none-some z e)
greater_picks None (Some w) z e = inr (e, refl, λ y f. absurd (none-some y f))
greater_picks (Some x) None z e = inl (e, grind (arith, ints))
greater_picks (Some x) (Some w) z e =
    let top : int_max x w ≡ z = cc in
    by_lt_z x w
    (λ lt.
    let up : w ≡ z = grind (arith, ints) in
    inr (ap Some up, grind (arith, ints), λ y f. let same : x ≡ y = cc in grind (arith, ints)))
    (λ le.
    let up : x ≡ z = grind (arith, ints) in
    inl (ap Some up, grind (arith, ints)))

module _ (f : ℕ → Option ℤ) where
  -- a total among those joined is at most their join, which is then a total
  joined_above : (n t : ℕ) → t < n → (y : ℤ) → f t ≡ Some y → (z : ℤ) × (joined totals f n ≡ Some z) × (y ≤ℤ z)
  unfolding joined
  joined_above zero t lt y e = absurd (omega arith)
  joined_above (suc n) t lt y e =
      ⊎_elim
      (λ below.
      let r = joined_above n t below y e in
      let s = greater_left (joined totals f n) (f n) r.0 r.1 in
      (s.0, s.1, omega (arith, ints, r.2, s.2)))
      (λ last.
      let here : t ≡ n = omega arith in
      greater_right (joined totals f n) (f n) y (rw here at e))
      (cases_lt t n)

  -- where the join of totals is nothing, each of them is nothing
  pub joined_none : (n : ℕ) → joined totals f n ≡ None → (t : ℕ) → t < n → f t ≡ None
  joined_none n e t lt = go (f t) refl
    where
      go : (o : Option ℤ) → f t ≡ o → f t ≡ None
      go None g = g
      go (Some y) g = let r = joined_above n t lt y g in absurd (none-some r.0 (sym e ∙ r.1))

  -- the join of totals is at least each of them
  pub joined_greatest : (n : ℕ) (z : ℤ) → joined totals f n ≡ Some z → (t : ℕ) → t < n → (y : ℤ) → f t ≡ Some y → y ≤ℤ z
  joined_greatest n z e t lt y g =
      let r = joined_above n t lt y g in
      let same : r.0 ≡ z = cc r.1 in
      omega (arith, ints, r.2)

  -- the last number that changed the join of totals is the lowest that brings it
  pub changed_lowest : (n : ℕ) (z : ℤ) → joined totals f n ≡ Some z
      → (changed totals f n < n) × (f (changed totals f n) ≡ Some z) × ((k : ℕ) → k < changed totals f n → f k ≡ Some z → ⊥)
  unfolding joined changed
  changed_lowest zero z e = absurd (none-some z e)
  changed_lowest (suc n) z e =
      ⊎_elim
      (λ (a : (joined totals f n ≡ Some z) × (option_eq int_eq (joined totals f (suc n)) (joined totals f n) ≡ true)).
      let r = changed_lowest n z a.0 in
      let is : changed totals f (suc n) ≡ changed totals f n = cond-true _ (changed totals f n) n a.1 in
      rw is (omega (arith, r.0), r.1, r.2))
      (λ b.
      let is : changed totals f (suc n) ≡ n = cond-false _ (changed totals f n) n b.1 in
      rw is (
        omega arith,
        b.0,
        λ k lt g.
            let r = joined_above n k lt z g in omega (arith, ints, r.2, b.2 r.0 r.1),
      ))
      (greater_picks (joined totals f n) (f n) z e)

-- the last number that changed a join is one of those joined
changed_below : {X : Type 0} (r : Rule X) (f : ℕ → X) (n : ℕ) → changed r f n ≤ n - 1
unfolding changed
changed_below r f zero = omega arith
changed_below r f (suc n) =
    cond_both (r.same (joined r f (suc n)) (joined r f n)) (changed r f n) n (λ k. k ≤ suc n - 1)
    (λ e. omega (arith, changed_below r f n)) (λ e. omega arith)

-- where there is a template, every last template takes up a column or more
pub last_positive : {X : Type 0} (r : Rule X) (ds : List ℕ) → Positive ds → 0 < length ds
    → (score : ℕ → ℕ → ℤ) (p : ℕ) → 1 ≤ get_or ds (place_last r ds score p) 0
last_positive r ds positive some score p =
    positive (place_last r ds score p) (omega (arith, changed_below r (brings r ds score (place_value r ds score) p) (length ds)))

-- last templates that agree up to a place give the same nodes from there, however many turns are taken
follow_within_same : (ds : List ℕ) (last other : ℕ → ℕ) (n p : ℕ) → ((q : ℕ) → q ≤ p → last q ≡ other q)
    → follow_within ds last n p ≡ follow_within ds other n p
unfolding follow_within
follow_within_same ds last other zero zero h = refl
follow_within_same ds last other zero (suc p) h = refl
follow_within_same ds last other (suc n) zero h = refl
follow_within_same ds last other (suc n) (suc p) h =
    let e : last (suc p) ≡ other (suc p) = h (suc p) (omega arith) in
    let rest : follow_within ds last n (suc p - get_or ds (last (suc p)) 0) ≡ follow_within ds other n (suc p - get_or ds (last (suc p)) 0)
    = follow_within_same ds last other n (suc p - get_or ds (last (suc p)) 0) (λ q le. h q (omega arith)) in
    (λ i. record { column = suc p - get_or ds (e i) 0; template = e i } ∷ rest i)
    ∙ (λ i. last_node ds other (suc p) ∷ follow_within ds other n (suc p - get_or ds (e i) 0))

-- last templates that agree up to a place give the same path to it
pub follow_same : (ds : List ℕ) (last other : ℕ → ℕ) (p : ℕ) → ((q : ℕ) → q ≤ p → last q ≡ other q) → follow ds last p ≡ follow ds other p
unfolding follow
follow_same ds last other p h = follow_within_same ds last other p p h

-- from place 0 last templates give no nodes
pub follow_start : (ds : List ℕ) (last : ℕ → ℕ) → follow ds last 0 ≡ []
unfolding follow follow_within
follow_start ds last = refl

-- more turns than a place needs change nothing, if every last template takes up a column or more
follow_alike : (ds : List ℕ) (last : ℕ → ℕ) (n m p : ℕ) → p ≤ n → p ≤ m → ((q : ℕ) → q < p → 1 ≤ get_or ds (last (suc q)) 0)
    → follow_within ds last n p ≡ follow_within ds last m p
unfolding follow_within
follow_alike ds last zero zero zero a b h = refl
follow_alike ds last zero zero (suc p) a b h = refl
follow_alike ds last zero (suc m) zero a b h = refl
follow_alike ds last zero (suc m) (suc p) a b h = absurd (omega arith)
follow_alike ds last (suc n) zero zero a b h = refl
follow_alike ds last (suc n) zero (suc p) a b h = absurd (omega arith)
follow_alike ds last (suc n) (suc m) zero a b h = refl
follow_alike ds last (suc n) (suc m) (suc p) a b h =
    let some : 1 ≤ get_or ds (last (suc p)) 0 = h p (omega arith) in
    let rest = follow_alike ds last n m (suc p - get_or ds (last (suc p)) 0) (omega arith) (omega arith) (λ q lt. h q (omega arith)) in
    λ i. last_node ds last (suc p) ∷ rest i

-- from a place last templates give the node by which the path to it ends, and then those from the place where that begins
pub follow_more : (ds : List ℕ) (last : ℕ → ℕ) (p : ℕ) → ((q : ℕ) → q ≤ p → 1 ≤ get_or ds (last (suc q)) 0)
    → follow ds last (suc p) ≡ last_node ds last (suc p) ∷ follow ds last (suc p - get_or ds (last (suc p)) 0)
unfolding follow follow_within
follow_more ds last p h =
    let some : 1 ≤ get_or ds (last (suc p)) 0 = h p (omega arith) in
    let rest = follow_alike ds last p (suc p - get_or ds (last (suc p)) 0) (suc p - get_or ds (last (suc p)) 0)
    (omega arith) (omega arith) (λ q lt. h q (omega arith)) in
    λ i. last_node ds last (suc p) ∷ rest i

module _ (ds : List ℕ) (score : ℕ → ℕ → ℤ) (v : ℕ → Option ℤ) where
  -- a node that begins where there is a total brings that total and its score to its end
  node_brings : (n : Node) (p : ℕ) (y : ℤ) → end_of ds n ≡ p → v n.column ≡ Some y
      → brings totals ds score v p n.template ≡ Some (y +ℤ score n.column n.template)
  node_brings n p y ends e =
      let few : leb (get_or ds n.template 0) p ≡ true = le-leb (get_or ds n.template 0) p (omega arith) in
      let begins : p - get_or ds n.template 0 ≡ n.column = omega arith in
      rw (few, begins, e) refl

  -- a total that a template brings to a place is that where its node begins, and its score
  brought_from : (p t : ℕ) (z : ℤ) → brings totals ds score v p t ≡ Some z
      → (y : ℤ) × (get_or ds t 0 ≤ p) × (v (p - get_or ds t 0) ≡ Some y) × (y +ℤ score (p - get_or ds t 0) t ≡ z)
  brought_from p t z e = go (leb (get_or ds t 0) p) refl (v (p - get_or ds t 0)) refl
    where
      go : (b : Bool) → leb (get_or ds t 0) p ≡ b → (o : Option ℤ) → v (p - get_or ds t 0) ≡ o
          → (y : ℤ) × (get_or ds t 0 ≤ p) × (v (p - get_or ds t 0) ≡ Some y) × (y +ℤ score (p - get_or ds t 0) t ≡ z)
      go false f o g = absurd (none-some z (rw f at e))
      go true f None g = absurd (none-some z (rw (f, g) at e))
      go true f (Some y) g =
          let is : Some (y +ℤ score (p - get_or ds t 0) t) ≡ Some z = rw (f, g) at e in
          (y, leb-true (get_or ds t 0) p f, g, cc)

-- a path is the first best one to a place, with this total
abbrev BestWith : List ℕ → (ℕ → ℕ → ℤ) → ℕ → ℤ → List Node → Type 0
BestWith ds score p z path = FirstBest ds score p path × (total score path ≡ z)

module _ (ds : List ℕ) (positive : Positive ds) (score : ℕ → ℕ → ℤ) where
  -- at a place that a path leads to stands a total, and that is at least the path's
  reached_above : (p : ℕ) (path : List Node) → Leads ds p path → (z : ℤ) × (place_value totals ds score p ≡ Some z) × (total score path ≤ℤ z)
  reached_above p [] l = (pos 0, rw l (value_start totals ds positive score), omega (arith, ints))
  reached_above zero (n ∷ before) l = absurd (omega (arith, positive n.template l.0))
  reached_above (suc p) (n ∷ before) l =
      let r = reached_above n.column before l.2 in
      let b = node_brings ds score (place_value totals ds score) n (suc p) r.0 l.1 r.1 in
      let s = joined_above (brings totals ds score (place_value totals ds score) (suc p)) (length ds) n.template l.0
      (r.0 +ℤ score n.column n.template) b in
      (s.0, value_works totals ds positive score p ∙ s.1, omega (arith, ints, r.2, s.2))

  -- a path leads only to a place with a total
  pub reached_by : (p : ℕ) (path : List Node) → Leads ds p path → (z : ℤ) × (place_value totals ds score p ≡ Some z)
  reached_by p path l = let r = reached_above p path l in (r.0, r.1)

  -- a path whose total stands at its place: its last node brings that total there
  best_brings : (p : ℕ) (m : Node) (ms : List Node) → Leads ds (suc p) (m ∷ ms) → (z : ℤ) → place_value totals ds score (suc p) ≡ Some z
      → total score (m ∷ ms) ≡ z → brings totals ds score (place_value totals ds score) (suc p) m.template ≡ Some z
  best_brings p m ms l z e f =
      let r = reached_above m.column ms l.2 in
      let b = node_brings ds score (place_value totals ds score) m (suc p) r.0 l.1 r.1 in
      let top = joined_greatest (brings totals ds score (place_value totals ds score) (suc p)) (length ds) z
      (sym (value_works totals ds positive score p) ∙ e) m.template l.0 (r.0 +ℤ score m.column m.template) b in
      let is : r.0 +ℤ score m.column m.template ≡ z = omega (arith, ints, r.2, top) in
      b ∙ ap Some is

  -- a path with the total of its place is the one by the lowest template that brings it, on the first best path before that, or later
  first_lifted : (p : ℕ) (z : ℤ) → place_value totals ds score (suc p) ≡ Some z
      → (n : Node) (rest : List Node) → end_of ds n ≡ suc p → total score (n ∷ rest) ≡ z
      → ((k : ℕ) → k < n.template → brings totals ds score (place_value totals ds score) (suc p) k ≡ Some z → ⊥)
      → FirstBest ds score n.column rest
      → (other : List Node) → Leads ds (suc p) other → total score other ≡ total score (n ∷ rest) → (other ≡ n ∷ rest) ⊎ Earlier (n ∷ rest) other
  first_lifted p z e n rest ends sum lowest best [] l f = absurd (omega arith)
  first_lifted p z e n rest ends sum lowest best (m ∷ ms) l f =
      ⊎_elim
      (λ alike.
      let same : m ≡ n = same_node ds m n (sym alike) (l.1 ∙ sym ends) in
      let scores : score m.column m.template ≡ score n.column n.template = ap (λ q. score q.column q.template) same in
      ⊎_elim
      (λ g. inl (λ i. same i ∷ g i))
      (λ later. inr (inr (sym same, later)))
      (best.first ms (subst (λ q. Leads ds q.column ms) same l.2) (omega (arith, ints))))
      (⊎_elim
      (λ lower. inr (inl lower))
      (λ higher. absurd (lowest m.template higher (best_brings p m ms l z e (f ∙ sum)))))
      (cases_order n.template m.template)

  -- the total that stands at a place is at least that of any path there
  none_above : (p : ℕ) (z : ℤ) → place_value totals ds score p ≡ Some z → (other : List Node) → Leads ds p other → total score other ≤ℤ z
  none_above p z e other l =
      let r = reached_above p other l in
      let same : r.0 ≡ z = cc r.1 in
      omega (arith, ints, r.2)

  -- only the path of no nodes leads to place 0
  start_only : (path : List Node) → Leads ds 0 path → path ≡ []
  start_only [] l = refl
  start_only (n ∷ before) l = absurd (omega (arith, positive n.template l.0))

  -- the path of no nodes is the first best one to place 0
  best_start : (z : ℤ) → place_value totals ds score 0 ≡ Some z → BestWith ds score 0 z []
  best_start z e =
      let nothing : pos 0 ≡ z = cc (value_start totals ds positive score) in (
        record {
          leads = refl;
          greatest = λ other l. rw nothing (none_above 0 z e other l);
          first = λ other l f. inl (start_only other l);
        },
        nothing,
      )

  -- the lowest template with the total at a place lengthens the first best path to where it begins
  best_more : (p : ℕ) (z y : ℤ) → place_value totals ds score (suc p) ≡ Some z
      → (n : Node) (rest : List Node) → n.template < length ds → end_of ds n ≡ suc p → y +ℤ score n.column n.template ≡ z
      → ((k : ℕ) → k < n.template → brings totals ds score (place_value totals ds score) (suc p) k ≡ Some z → ⊥)
      → BestWith ds score n.column y rest → BestWith ds score (suc p) z (n ∷ rest)
  best_more p z y e n rest known ends sum lowest b =
      let whole : total score (n ∷ rest) ≡ z = omega (arith, ints, b.1) in (
        record {
          leads = (known, ends, b.0.leads);
          greatest = λ other l. rw whole (none_above (suc p) z e other l);
          first = first_lifted p z e n rest ends whole lowest b.0;
        },
        whole,
      )

  -- from a place with a total last templates give the first best path there, and it has that total
  follow_best : (p : ℕ) (z : ℤ) → place_value totals ds score p ≡ Some z → BestWith ds score p z (follow ds (place_last totals ds score) p)
  follow_best = by_places (λ p. (z : ℤ) → place_value totals ds score p ≡ Some z → BestWith ds score p z (follow ds (place_last totals ds score) p)) next
    where
      next : (p : ℕ) → ((q : ℕ) → q < p → (z : ℤ) → place_value totals ds score q ≡ Some z → BestWith ds score q z (follow ds (place_last totals ds score) q))
          → (z : ℤ) → place_value totals ds score p ≡ Some z → BestWith ds score p z (follow ds (place_last totals ds score) p)
      next zero before z e = rw (follow_start ds (place_last totals ds score)) (best_start z e)
      next (suc p) before z e =
          let c = changed_lowest (brings totals ds score (place_value totals ds score) (suc p)) (length ds) z (sym (value_works totals ds positive score p) ∙ e) in
          let b = brought_from ds score (place_value totals ds score) (suc p) (place_last totals ds score (suc p)) z c.1 in
          let wide : 1 ≤ get_or ds (place_last totals ds score (suc p)) 0 = positive (place_last totals ds score (suc p)) c.0 in
          let few : get_or ds (place_last totals ds score (suc p)) 0 ≤ suc p = b.1 in
          let some : 0 < length ds = omega (arith, c.0) in
          let rest = before (suc p - get_or ds (place_last totals ds score (suc p)) 0) (omega arith) b.0 b.2 in
          rw (follow_more ds (place_last totals ds score) p (λ q le. last_positive totals ds positive some score (suc q)))
          (best_more p z b.0 e (last_node ds (place_last totals ds score) (suc p))
          (follow ds (place_last totals ds score) (suc p - get_or ds (place_last totals ds score (suc p)) 0))
          c.0 (omega arith) b.3 c.2 rest)

  -- totals with last templates tell the first best paths
  pub tells_best : (p : ℕ) → TellsBest ds score p (place_value totals ds score p) (place_last totals ds score)
  tells_best p =
      record {
        unreached = λ e path l. let r = reached_by p path l in none-some r.0 (sym e ∙ r.1);
        best = λ z e. (follow_best p z e).0;
        its_total = λ z e. (follow_best p z e).1;
      }

  -- where any path leads to a place, there is a first best one, and only one
  pub one_first_best : (p : ℕ) → OneFirstBest ds score p
  one_first_best p =
      record {
        some = λ path l. let r = reached_by p path l in (follow ds (place_last totals ds score) p, (tells_best p).best r.0 r.1);
        only = only_first_best ds score p;
      }
