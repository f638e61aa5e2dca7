-- Paths read from either end are the same, their order is strict and total, and there is at most one first best path. Assumes nothing.
use Rattle.std.proofs.Common.{◌≡◌, ℕ, ◌<◌, ◌⊎◌, List, [], ◌∷◌, reverse, get_or, ℤ, ◌+ℤ◌, ◌≤ℤ◌, sym, refl, ap, ◌∙◌, subst, inl, inr, ⊎_elim, arith}
use mathlib.Core.List.{reverse_aux}
use Rattle.std.proofs.lemmas.Int.{ints}
use Rattle.std.proofs.lemmas.Bool.{cases_order}
use Rattle.paths.specs.Paths.{Positive, end_of, Runs, Leads, total, Earlier, FirstBest, TurnsRound, Ordered}
use Rattle.paths.specs.declared.Node.{Node}

-- nodes that run from place x to place w lengthen a path to x to one that leads to w
leads_on : (ds : List ℕ) (x w : ℕ) (nodes before : List Node) → Runs ds x w nodes → Leads ds x before → Leads ds w (reverse_aux nodes before)
leads_on ds x w [] before r l = subst (λ q. Leads ds q before) r l
leads_on ds x w (n ∷ later) before r l =
    leads_on ds (end_of ds n) w later (n ∷ before) r.2 (r.0, refl, subst (λ q. Leads ds q before) (sym r.1) l)

-- a path to place w that ends in some nodes comes first to the place x from which these run to w
runs_back : (ds : List ℕ) (w : ℕ) (nodes before : List Node) → Leads ds w (reverse_aux nodes before) → (x : ℕ) × Runs ds x w nodes × Leads ds x before
runs_back ds w [] before l = (w, refl, l)
runs_back ds w (n ∷ later) before l =
    let r = runs_back ds w later (n ∷ before) l in
    (n.column, (r.2.0, refl, subst (λ q. Runs ds q w later) (sym r.2.1) r.1), r.2.2)

-- complete from the left is leading to the end from the right
pub turns_round : TurnsRound
turns_round ds w nodes = (
  λ r. leads_on ds 0 w nodes [] r refl,
  λ l. let r = runs_back ds w nodes [] l in subst (λ q. Runs ds q w nodes) r.2 r.1,
)

-- the total of nodes turned round before others is the sum of the two totals
total_turned : (score : ℕ → ℕ → ℤ) (nodes others : List Node) → total score (reverse_aux nodes others) ≡ total score nodes +ℤ total score others
total_turned score [] others = omega (arith, ints)
total_turned score (n ∷ later) others = omega (arith, ints, total_turned score later (n ∷ others))

-- the total of a path is the same from either end
pub total_reverse : (score : ℕ → ℕ → ℤ) (nodes : List Node) → total score (reverse nodes) ≡ total score nodes
total_reverse score nodes = omega (arith, ints, total_turned score nodes [])

-- no path is earlier than itself
pub not_earlier_itself : (a : List Node) → Earlier a a → ⊥
not_earlier_itself [] e = e
not_earlier_itself (n ∷ ns) (inl lt) = omega arith
not_earlier_itself (n ∷ ns) (inr e) = not_earlier_itself ns e.1

-- earlier than an earlier path is earlier
pub earlier_chain : (a b c : List Node) → Earlier a b → Earlier b c → Earlier a c
earlier_chain [] [] c e f = absurd e
earlier_chain [] (m ∷ ms) c e f = absurd e
earlier_chain (n ∷ ns) [] c e f = absurd e
earlier_chain (n ∷ ns) (m ∷ ms) [] e f = absurd f
earlier_chain (n ∷ ns) (m ∷ ms) (k ∷ ks) (inl lt) (inl lower) = inl (omega arith)
earlier_chain (n ∷ ns) (m ∷ ms) (k ∷ ks) (inl lt) (inr f) = inl (subst (λ q. n.template < q.template) f.0 lt)
earlier_chain (n ∷ ns) (m ∷ ms) (k ∷ ks) (inr e) (inl lower) = inl (subst (λ q. q.template < k.template) (sym e.0) lower)
earlier_chain (n ∷ ns) (m ∷ ms) (k ∷ ks) (inr e) (inr f) = inr (e.0 ∙ f.0, earlier_chain ns ms ks e.1 f.1)

-- two nodes of one template that end at one place are the same node
pub same_node : (ds : List ℕ) (n m : Node) → n.template ≡ m.template → end_of ds n ≡ end_of ds m → n ≡ m
same_node ds n m e ends =
    let wide : get_or ds n.template 0 ≡ get_or ds m.template 0 = ap (λ t. get_or ds t 0) e in
    let starts : n.column ≡ m.column = omega arith in
    λ i. record { column = starts i; template = e i }

-- of two paths to a place one is earlier, unless they are the same
one_earlier : (ds : List ℕ) → Positive ds → (p : ℕ) (a b : List Node) → Leads ds p a → Leads ds p b → (a ≡ b) ⊎ (Earlier a b ⊎ Earlier b a)
one_earlier ds positive p [] [] l k = inl refl
one_earlier ds positive p [] (m ∷ ms) l k = absurd (omega (arith, positive m.template k.0))
one_earlier ds positive p (n ∷ ns) [] l k = absurd (omega (arith, positive n.template l.0))
one_earlier ds positive p (n ∷ ns) (m ∷ ms) l k =
    ⊎_elim
    (λ e.
    let same : n ≡ m = same_node ds n m e (l.1 ∙ sym k.1) in
    ⊎_elim
    (λ rest. inl (λ i. same i ∷ rest i))
    (⊎_elim (λ sooner. inr (inl (inr (same, sooner)))) (λ later. inr (inr (inr (sym same, later)))))
    (one_earlier ds positive m.column ns ms (subst (λ q. Leads ds q.column ns) same l.2) k.2))
    (⊎_elim (λ lt. inr (inl (inl lt))) (λ gt. inr (inr (inl gt))))
    (cases_order n.template m.template)

-- the order of the paths to a place is strict and total
pub ordered : (ds : List ℕ) → Positive ds → (p : ℕ) → Ordered ds p
ordered ds positive p = record { not_itself = not_earlier_itself; chain = earlier_chain; either = one_earlier ds positive p }

-- there is at most one first best path to a place
pub only_first_best : (ds : List ℕ) (score : ℕ → ℕ → ℤ) (p : ℕ) (a b : List Node) → FirstBest ds score p a → FirstBest ds score p b → a ≡ b
only_first_best ds score p a b f g =
    let low : total score b ≤ℤ total score a = f.greatest b g.leads in
    let high : total score a ≤ℤ total score b = g.greatest a f.leads in
    let alike : total score b ≡ total score a = omega (arith, ints) in
    ⊎_elim
    sym
    (λ sooner.
    ⊎_elim
    (λ e. e)
    (λ later. absurd (not_earlier_itself a (earlier_chain a b a sooner later)))
    (g.first a f.leads (sym alike)))
    (f.first b g.leads alike)
