-- What a sweep gives a place is the join over all the paths that lead there, each path once. Assumes nothing.
use Rattle.std.proofs.Common.{◌≡◌, ℕ, zero, suc, ◌+◌, ◌-◌, ◌<◌, ◌≤◌, true, false, cond, leb, List, [], ◌∷◌, ◌++◌, map, length, get_or, ℤ, ◌≤ℤ◌, Some, None, Decides, Option, ◌≢◌, sym, refl, ap, ◌∙◌, subst, ⊎_elim, arith}
use Rattle.std.proofs.lemmas.List.Elements.{All-nil, All-cons, All-head, All-tail, All-append, All-map, All-get_or, All-contains, Contains-append_left, Contains-append_right}
use Rattle.std.proofs.lemmas.List.{map-append, length-append, length-map, get_or-map, get_or_append_left, get_or-append_right}
use Rattle.std.proofs.lemmas.Int.{ints, by_lt_z}
use Rattle.std.proofs.lemmas.Bool.{leb-true, le-leb, cases_lt, cond_both, cond-true, false≢true, or_left}
use Rattle.std.specs.Int.{int_max}
use Rattle.std.specs.List.{All, AllPairs, Contains}
use Rattle.paths.specs.Combining.{Rule, RuleLawful, reach, added, greater, totals}
use Rattle.paths.specs.Paths.{Positive, Leads, total}
use Rattle.paths.specs.Sweep.{joined, brings, value_within, place_value, along, join_all, EachPathOnce, Joins}
use Rattle.paths.specs.declared.Node.{Node}
use Rattle.paths.proofs.Rules.{reach_lawful, totals_lawful}

-- the node of template t that ends at place p
abbrev node_to : List ℕ → ℕ → ℕ → Node
node_to ds p t = record { column = p - get_or ds t 0; template = t }

-- of paths given by place, those to place p whose last template is t
abbrev ending : List ℕ → (ℕ → List (List Node)) → ℕ → ℕ → List (List Node)
ending ds paths p t =
    cond (leb (get_or ds t 0) p) (map (λ path. node_to ds p t ∷ path) (paths (p - get_or ds t 0))) []

-- those to place p whose last template is below n
endings : List ℕ → (ℕ → List (List Node)) → ℕ → ℕ → List (List Node)
endings ds paths p zero = []
endings ds paths p (suc n) = endings ds paths p n ++ ending ds paths p n

-- the paths to a place of at most n nodes
paths_within : List ℕ → ℕ → ℕ → List (List Node)
paths_within ds zero zero = [] ∷ []
paths_within ds zero (suc p) = []
paths_within ds (suc n) zero = [] ∷ []
paths_within ds (suc n) (suc p) = endings ds (paths_within ds n) (suc p) (length ds)

-- what is in a list is, changed, in the changed list
has_map : {X Y : Type 0} (f : X → Y) (xs : List X) (x : X) → Contains xs x → Contains (map f xs) (f x)
has_map f xs x (k, lt, here) = (k, simp length-map lt, get_or-map f xs k x (f x) lt ∙ ap f here)

-- no two are alike in a list changed by what keeps them apart
once_map : {X Y : Type 0} (f : X → Y) → ((a b : X) → f a ≡ f b → a ≡ b) → (xs : List X) → AllPairs ◌≢◌ xs → AllPairs ◌≢◌ (map f xs)
once_map f apart (x ∷ xs) once i j d less within e =
    let short : j < length (x ∷ xs) = omega (arith, length-map (x ∷ xs) f) in
    once i j x less short (apart _ _ (sym (get_or-map f (x ∷ xs) i x d (omega arith)) ∙ e ∙ get_or-map f (x ∷ xs) j x d short))
once_map f apart [] once i j d less within e = absurd (omega arith)

-- no two are alike in one list after another, where this holds of each and nothing is in both
once_append : {X : Type 0} (xs ys : List X) → AllPairs ◌≢◌ xs → AllPairs ◌≢◌ ys → ((i j : ℕ) (d : X) → i < length xs → j < length ys → get_or xs i d ≡ get_or ys j d → ⊥) → AllPairs ◌≢◌ (xs ++ ys)
once_append xs ys here there apart i j d less within e =
    let long : length (xs ++ ys) ≡ length xs + length ys = length-append xs ys in
    ⊎_elim
    (λ front.
    let short : i < length xs = omega arith in
    here i j d less front (sym (get_or_append_left xs ys d i short) ∙ e ∙ get_or_append_left xs ys d j front))
    (λ back.
    let b : get_or (xs ++ ys) j d ≡ get_or ys (j - length xs) d = get_or-append_right xs ys (length xs) j d refl back in
    ⊎_elim
    (λ short. apart i (j - length xs) d short (omega arith) (sym (get_or_append_left xs ys d i short) ∙ e ∙ b))
    (λ past.
    there (i - length xs) (j - length xs) d (omega arith) (omega arith)
    (sym (get_or-append_right xs ys (length xs) i d refl past) ∙ e ∙ b))
    (cases_lt i (length xs)))
    (cases_lt j (length xs))

-- the last template of a path
abbrev last_template : List Node → ℕ
last_template [] = 0
last_template (n ∷ before) = n.template

-- paths one node longer are alike only where the paths are
shorter_alike : (n : Node) (a b : List Node) → (n ∷ a) ≡ (n ∷ b) → a ≡ b
shorter_alike n a b e = cc

-- from all the paths to each place before p, each once, all the paths to p, each once
module _ (ds : List ℕ) (positive : Positive ds) (paths : ℕ → List (List Node)) (p : ℕ)
    (before : (q : ℕ) → q < p → EachPathOnce ds q (paths q)) where
  -- what holds of no paths, and of the paths to where template t begins with its node added, holds of those whose last template it is
  ends : (P : List (List Node) → Type 0) (t : ℕ) → t < length ds → P []
      → (get_or ds t 0 ≤ p → EachPathOnce ds (p - get_or ds t 0) (paths (p - get_or ds t 0))
      → P (map (λ path. node_to ds p t ∷ path) (paths (p - get_or ds t 0))))
      → P (ending ds paths p t)
  ends P t known none some =
      cond_both (leb (get_or ds t 0) p) _ [] P
      (λ e.
      let few : get_or ds t 0 ≤ p = leb-true (get_or ds t 0) p e in
      some few (before (p - get_or ds t 0) (omega (arith, positive t known))))
      (λ e. none)

  -- the paths whose last template is t lead to the place
  ending_lead : (t : ℕ) → t < length ds → All (Leads ds p) (ending ds paths p t)
  ending_lead t known = ends (All (Leads ds p)) t known (All-nil (Leads ds p)) λ few once.
      let back : p - get_or ds t 0 + get_or ds t 0 ≡ p = omega arith in
      All-map (Leads ds p) (λ path. node_to ds p t ∷ path) (paths (p - get_or ds t 0)) (λ k d lt. (known, back, once.lead k d lt))

  -- their last template is t
  ending_last : (t : ℕ) → t < length ds → All (λ path. last_template path ≡ t) (ending ds paths p t)
  ending_last t known = ends (All (λ path. last_template path ≡ t)) t known (All-nil (λ path. last_template path ≡ t)) λ few once.
      All-map (λ path. last_template path ≡ t) (λ path. node_to ds p t ∷ path) (paths (p - get_or ds t 0)) (λ k d lt. refl)

  -- none of them is listed twice
  ending_once : (t : ℕ) → t < length ds → AllPairs ◌≢◌ (ending ds paths p t)
  ending_once t known = ends (AllPairs ◌≢◌) t known (λ i j d less within e. absurd (omega arith)) λ few once.
      once_map (λ path. node_to ds p t ∷ path) (shorter_alike (node_to ds p t)) (paths (p - get_or ds t 0)) once.once

  -- every path that leads to the place is listed by its last template
  ending_has : (n : Node) (earlier : List Node) → Leads ds p (n ∷ earlier) → Contains (ending ds paths p n.template) (n ∷ earlier)
  ending_has n earlier (known, back, leads) =
      let few : get_or ds n.template 0 ≤ p = omega arith in
      let here : p - get_or ds n.template 0 ≡ n.column = omega arith in
      let short : Contains (paths (p - get_or ds n.template 0)) earlier =
      (before (p - get_or ds n.template 0) (omega (arith, positive n.template known))).every earlier
      (subst (λ q. Leads ds q earlier) (sym here) leads) in
      let long : Contains (map (λ path. node_to ds p n.template ∷ path) (paths (p - get_or ds n.template 0))) (node_to ds p n.template ∷ earlier) =
      has_map (λ path. node_to ds p n.template ∷ path) (paths (p - get_or ds n.template 0)) earlier short in
      let same : node_to ds p n.template ≡ n = λ i. record { column = here i; template = n.template } in
      let listed : ending ds paths p n.template ≡ map (λ path. node_to ds p n.template ∷ path) (paths (p - get_or ds n.template 0)) =
      cond-true (leb (get_or ds n.template 0) p) _ [] (le-leb (get_or ds n.template 0) p few) in
      subst (λ l. Contains l (n ∷ earlier)) (sym listed) (subst (λ m. Contains (map (λ path. node_to ds p n.template ∷ path) (paths (p - get_or ds n.template 0))) (m ∷ earlier)) same long)

  -- the paths whose last template is below n lead to the place
  endings_lead : (n : ℕ) → n ≤ length ds → All (Leads ds p) (endings ds paths p n)
  unfolding endings
  endings_lead zero h = All-nil (Leads ds p)
  endings_lead (suc n) h =
      All-append (Leads ds p) (endings ds paths p n) (ending ds paths p n) (endings_lead n (omega arith)) (ending_lead n (omega arith))

  -- their last templates are below n
  endings_last : (n : ℕ) → n ≤ length ds → All (λ path. last_template path < n) (endings ds paths p n)
  unfolding endings
  endings_last zero h = All-nil (λ path. last_template path < zero)
  endings_last (suc n) h =
      All-append (λ path. last_template path < suc n) (endings ds paths p n) (ending ds paths p n)
      (λ k d lt. omega (arith, endings_last n (omega arith) k d lt)) (λ k d lt. omega (arith, ending_last n (omega arith) k d lt))

  -- none of them is listed twice
  endings_once : (n : ℕ) → n ≤ length ds → AllPairs ◌≢◌ (endings ds paths p n)
  unfolding endings
  endings_once zero h = λ i j d less within e. absurd (omega arith)
  endings_once (suc n) h =
      once_append (endings ds paths p n) (ending ds paths p n) (endings_once n (omega arith)) (ending_once n (omega arith))
      (λ i j d front back e.
      let less : last_template (get_or (endings ds paths p n) i d) < n =
      All-get_or (λ path. last_template path < n) (endings ds paths p n) i d front (endings_last n (omega arith)) in
      let is : last_template (get_or (ending ds paths p n) j d) ≡ n =
      All-get_or (λ path. last_template path ≡ n) (ending ds paths p n) j d back (ending_last n (omega arith)) in
      omega (arith, ap last_template e))

  -- what is listed by a template below n is among them
  endings_has : (n t : ℕ) → t < n → (path : List Node) → Contains (ending ds paths p t) path → Contains (endings ds paths p n) path
  unfolding endings
  endings_has zero t less path has = absurd (omega arith)
  endings_has (suc n) t less path has = ⊎_elim
      (λ below. Contains-append_left (endings ds paths p n) (ending ds paths p n) path (endings_has n t below path has))
      (λ above.
      let e : t ≡ n = omega arith in
      Contains-append_right (endings ds paths p n) (ending ds paths p n) path (subst (λ k. Contains (ending ds paths p k) path) e has))
      (cases_lt t n)

  -- every path that leads to a place past 0 is among those of all templates
  endings_every : (path : List Node) → Leads ds p path → 1 ≤ p → Contains (endings ds paths p (length ds)) path
  endings_every [] leads past = absurd (omega arith)
  endings_every (n ∷ earlier) leads past = endings_has (length ds) n.template leads.0 (n ∷ earlier) (ending_has n earlier leads)

  -- those of all templates are all the paths to a place past 0, each once
  endings_each : 1 ≤ p → EachPathOnce ds p (endings ds paths p (length ds))
  endings_each past = record {
    lead = endings_lead (length ds) (omega arith);
    every = λ path leads. endings_every path leads past;
    once = endings_once (length ds) (omega arith);
  }

module _ (ds : List ℕ) (positive : Positive ds) where
  -- every path that leads to place 0 is empty
  start_every : (path : List Node) → Leads ds 0 path → Contains ([] ∷ []) path
  start_every [] leads = (0, omega arith, refl)
  start_every (n ∷ earlier) (known, back, leads) = absurd (omega (arith, positive n.template known))

  -- the empty path is all that leads to place 0
  start_each : EachPathOnce ds 0 ([] ∷ [])
  start_each = record { lead = All-cons (Leads ds 0) [] [] refl (All-nil (Leads ds 0)); every = start_every; once = λ i j d less within e. absurd (omega arith) }

  -- the paths of at most n nodes to a place of at most n are all the paths there, each once
  paths_each : (n p : ℕ) → p ≤ n → EachPathOnce ds p (paths_within ds n p)
  unfolding paths_within
  paths_each zero zero h = start_each
  paths_each zero (suc p) h = absurd (omega arith)
  paths_each (suc n) zero h = start_each
  paths_each (suc n) (suc p) h =
      endings_each ds positive (paths_within ds n) (suc p) (λ q less. paths_each n q (omega arith)) (omega arith)

module _ {X : Type 0} (r : Rule X) (lawful : RuleLawful X r) where
  -- the join of one list of values after another is the join of their joins
  join_append : (xs ys : List X) → join_all r (xs ++ ys) ≡ r.join (join_all r xs) (join_all r ys)
  join_append [] ys = sym (lawful.commutative r.none (join_all r ys) ∙ lawful.neutral (join_all r ys))
  join_append (x ∷ xs) ys = ap (r.join x) (join_append xs ys) ∙ sym (lawful.associative x (join_all r xs) (join_all r ys))

  -- the join over some paths, extended, is the join over the paths one node longer
  join_longer : (score : ℕ → ℕ → ℤ) (n : Node) (paths : List (List Node))
      → r.extend (join_all r (map (along r score) paths)) (score n.column n.template) ≡ join_all r (map (along r score) (map (λ path. n ∷ path) paths))
  join_longer score n [] = lawful.none_stays (score n.column n.template)
  join_longer score n (path ∷ paths) =
      lawful.spreads (along r score path) (join_all r (map (along r score) paths)) (score n.column n.template)
      ∙ ap (r.join (along r score (n ∷ path))) (join_longer score n paths)

  module _ (ds : List ℕ) (score : ℕ → ℕ → ℤ) (v : ℕ → X) (paths : ℕ → List (List Node)) (p : ℕ)
      (before : (q : ℕ) → v q ≡ join_all r (map (along r score) (paths q))) where
    -- a template brings to a place the join over the paths whose last template it is
    brings_ending : (t : ℕ) → brings r ds score v p t ≡ join_all r (map (along r score) (ending ds paths p t))
    brings_ending t =
        let e : r.extend (v (p - get_or ds t 0)) (score (p - get_or ds t 0) t) ≡ join_all r (map (along r score) (map (λ path. node_to ds p t ∷ path) (paths (p - get_or ds t 0)))) =
        ap (λ x. r.extend x (score (p - get_or ds t 0) t)) (before (p - get_or ds t 0)) ∙ join_longer score (node_to ds p t) (paths (p - get_or ds t 0)) in
        elim (leb (get_or ds t 0) p)
        as (λ b. cond b (r.extend (v (p - get_or ds t 0)) (score (p - get_or ds t 0) t)) r.none
        ≡ join_all r (map (along r score) (cond b (map (λ path. node_to ds p t ∷ path) (paths (p - get_or ds t 0))) [])))
        [ true ↦ e | false ↦ refl ]

    -- the join of what the templates below n bring is that over the paths whose last template is below n
    joined_endings : (n : ℕ) → joined r (brings r ds score v p) n ≡ join_all r (map (along r score) (endings ds paths p n))
    unfolding joined endings
    joined_endings zero = refl
    joined_endings (suc n) =
        let a = joined_endings n in
        let b = brings_ending n in
        (λ i. r.join (a i) (b i))
        ∙ sym (join_append (map (along r score) (endings ds paths p n)) (map (along r score) (ending ds paths p n)))
        ∙ ap (join_all r) (sym (map-append (along r score) (endings ds paths p n) (ending ds paths p n)))

  -- what n turns give a place is the join over the paths of at most n nodes
  within_joins : (ds : List ℕ) (score : ℕ → ℕ → ℤ) (n p : ℕ) → value_within r ds score n p ≡ join_all r (map (along r score) (paths_within ds n p))
  unfolding value_within paths_within
  within_joins ds score zero zero = sym (lawful.neutral r.start)
  within_joins ds score zero (suc p) = refl
  within_joins ds score (suc n) zero = sym (lawful.neutral r.start)
  within_joins ds score (suc n) (suc p) =
      joined_endings ds score (value_within r ds score n) (paths_within ds n) (suc p) (λ q. within_joins ds score n q) (length ds)

-- what a sweep gives a place is the join over all the paths that lead there, each once
pub joins : {X : Type 0} (r : Rule X) → RuleLawful X r → (ds : List ℕ) → Positive ds → (score : ℕ → ℕ → ℤ) (p : ℕ) → Joins r ds score p (place_value r ds score p)
unfolding place_value
joins r lawful ds positive score p = record {
  paths = paths_within ds p p;
  each_once = paths_each ds positive p p (omega arith);
  value = within_joins r lawful ds score p p;
}

module _ (score : ℕ → ℕ → ℤ) where
  -- along every path the answer is yes
  along_yes : (path : List Node) → along reach score path ≡ true
  along_yes [] = refl
  along_yes (n ∷ earlier) = along_yes earlier

  -- where the join over listed paths says yes, one is listed
  listed_from_yes : (P : List Node → Type 0) (paths : List (List Node)) → All P paths → join_all reach (map (along reach score) paths) ≡ true → (path : List Node) × P path
  listed_from_yes P [] all e = absurd (false≢true e)
  listed_from_yes P (path ∷ paths) all e = (path, All-head P path paths all)

  -- where a path is listed, the join over the listed paths says yes
  yes_from_listed : (paths : List (List Node)) (path : List Node) → Contains paths path → join_all reach (map (along reach score) paths) ≡ true
  yes_from_listed [] path (k, lt, here) = absurd (omega arith)
  yes_from_listed (first ∷ paths) path has = or_left (along reach score first) (join_all reach (map (along reach score) paths)) (along_yes first)

-- a sweep of yes or no says yes exactly at the places to which a path leads
pub reach_tells : (ds : List ℕ) → Positive ds → (score : ℕ → ℕ → ℤ) (p : ℕ) → Decides (place_value reach ds score p) ((path : List Node) × Leads ds p path)
reach_tells ds positive score p =
    let j : Joins reach ds score p (place_value reach ds score p) = joins reach reach_lawful ds positive score p in (
      λ e. listed_from_yes score (Leads ds p) j.paths j.each_once.lead (sym j.value ∙ e),
      λ (path, leads). j.value ∙ yes_from_listed score j.paths path (j.each_once.every path leads),
    )

-- of listed paths: none, or the greatest of their totals
abbrev GreatestListed : (ℕ → ℕ → ℤ) → (List Node → Type 0) → List (List Node) → Option ℤ → Type 0
GreatestListed score P paths None = All (λ path. ⊥) paths
GreatestListed score P paths (Some z) = ((path : List Node) × P path × (total score path ≡ z)) × All (λ path. total score path ≤ℤ z) paths

module _ (score : ℕ → ℕ → ℤ) (P : List Node → Type 0) where
  -- the greatest total of one more path
  greatest_more : (path : List Node) (paths : List (List Node)) (v : Option ℤ) → P path → GreatestListed score P paths v
      → GreatestListed score P (path ∷ paths) (greater (Some (total score path)) v)
  greatest_more path paths None is none =
      ((path, is, refl), All-cons (λ other. total score other ≤ℤ total score path) path paths (omega (arith, ints)) (λ k d lt. absurd (none k d lt)))
  greatest_more path paths (Some z) is (best, under) = by_lt_z z (total score path)
      (λ h.
      let top : total score path ≡ int_max (total score path) z = grind (arith, ints) in
      ((path, is, top), All-cons (λ other. total score other ≤ℤ int_max (total score path) z) path paths (omega (arith, ints)) (λ k d lt. omega (arith, ints, top, under k d lt))))
      (λ h.
      let top : z ≡ int_max (total score path) z = grind (arith, ints) in
      ((best.0, best.1, best.2 ∙ top), All-cons (λ other. total score other ≤ℤ int_max (total score path) z) path paths (omega (arith, ints)) (λ k d lt. omega (arith, ints, top, under k d lt))))

  -- the start extended along a path is its total
  along_total : (path : List Node) → along totals score path ≡ Some (total score path)
  along_total [] = refl
  along_total (n ∷ earlier) = ap (λ v. added (λ z. z) v (score n.column n.template)) (along_total earlier)

  -- the join over listed paths is the greatest of their totals, or nothing where none is listed
  greatest_listed : (paths : List (List Node)) → All P paths → GreatestListed score P paths (join_all totals (map (along totals score) paths))
  greatest_listed [] all = All-nil (λ path. ⊥)
  greatest_listed (path ∷ paths) all =
      subst (λ v. GreatestListed score P (path ∷ paths) (greater v (join_all totals (map (along totals score) paths)))) (sym (along_total path))
      (greatest_more path paths (join_all totals (map (along totals score) paths)) (All-head P path paths all) (greatest_listed paths (All-tail P path paths all)))

module _ (ds : List ℕ) (positive : Positive ds) (score : ℕ → ℕ → ℤ) (p : ℕ) where
  -- what a sweep of totals gives a place is the greatest total of a list with all the paths that lead there
  all_listed : (v : Option ℤ) → place_value totals ds score p ≡ v
      → (paths : List (List Node)) × ((path : List Node) → Leads ds p path → Contains paths path) × GreatestListed score (Leads ds p) paths v
  all_listed v e =
      let j : Joins totals ds score p (place_value totals ds score p) = joins totals totals_lawful ds positive score p in
      (j.paths, j.each_once.every, subst (GreatestListed score (Leads ds p) j.paths) (sym j.value ∙ e) (greatest_listed score (Leads ds p) j.paths j.each_once.lead))

  -- where a sweep of totals gives nothing, no path leads
  pub totals_none : place_value totals ds score p ≡ None → (path : List Node) → Leads ds p path → ⊥
  totals_none e path leads =
      let (paths, every, none) = all_listed None e in
      All-contains (λ path. ⊥) paths path none (every path leads)

  -- where it gives a total, a path that leads there has it, and none has more
  pub totals_some : (z : ℤ) → place_value totals ds score p ≡ Some z
      → ((path : List Node) × Leads ds p path × (total score path ≡ z)) × ((path : List Node) → Leads ds p path → total score path ≤ℤ z)
  totals_some z e =
      let (paths, every, greatest) = all_listed (Some z) e in
      (greatest.0, λ path leads. All-contains (λ other. total score other ≤ℤ z) paths path greatest.1 (every path leads))
