-- The sweep: what it gives each place, and what that is of the paths that lead there. Assumes nothing.
use Rattle.std.specs.Prelude.{◌≡◌, ℕ, zero, suc, ◌-◌, ◌<◌, cond, List, [], ◌∷◌, map, length, ℤ, ◌≢◌, nat_le, slice_index}
use Rattle.std.specs.List.{All, AllPairs, Contains}
use Rattle.paths.specs.Combining.{Rule}
use Rattle.paths.specs.Paths.{Leads}
use Rattle.paths.specs.declared.Node.{Node}

-- the join of f 0, …, f (n − 1), and the last number that changed it
unfoldable pub joined : {X : Type 0} → Rule X → (ℕ → X) → ℕ → X
joined r f zero = r.none
joined r f (suc n) = r.join (joined r f n) (f n)

unfoldable pub changed : {X : Type 0} → Rule X → (ℕ → X) → ℕ → ℕ
changed r f zero = 0
changed r f (suc n) = cond (r.same (joined r f (suc n)) (joined r f n)) (changed r f n) n

-- what template t brings to place p: the value where it begins, extended by the score of that node
abbrev pub brings : {X : Type 0} → Rule X → List ℕ → (ℕ → ℕ → ℤ) → (ℕ → X) → ℕ → ℕ → X
brings r ds score v p t =
    cond (nat_le (slice_index ds t) p) (r.extend (v (p - slice_index ds t)) (score (p - slice_index ds t) t)) r.none

-- working a place: its value joins what every template brings, and its last template is the last that changed it
abbrev pub work : {X : Type 0} → Rule X → List ℕ → (ℕ → ℕ → ℤ) → (ℕ → X) → ℕ → X
work r ds score v p = joined r (brings r ds score v p) (length ds)

abbrev pub work_last : {X : Type 0} → Rule X → List ℕ → (ℕ → ℕ → ℤ) → (ℕ → X) → ℕ → ℕ
work_last r ds score v p = changed r (brings r ds score v p) (length ds)

-- the values after n places were worked
unfoldable pub value_within : {X : Type 0} → Rule X → List ℕ → (ℕ → ℕ → ℤ) → ℕ → ℕ → X
value_within r ds score zero zero = r.start
value_within r ds score zero (suc p) = r.none
value_within r ds score (suc n) zero = r.start
value_within r ds score (suc n) (suc p) = work r ds score (value_within r ds score n) (suc p)

-- what a sweep gives place p
unfoldable pub place_value : {X : Type 0} → Rule X → List ℕ → (ℕ → ℕ → ℤ) → ℕ → X
place_value r ds score p = value_within r ds score p p

abbrev pub place_last : {X : Type 0} → Rule X → List ℕ → (ℕ → ℕ → ℤ) → ℕ → ℕ
place_last r ds score p = work_last r ds score (place_value r ds score) p

-- the rule of the sweep: place 0 has the start, and each later place is worked from those before it
pub record Swept {X : Type 0} (r : Rule X) (ds : List ℕ) (score : ℕ → ℕ → ℤ) (v : ℕ → X) (w : ℕ) : Type 0 where
  pub starts : v 0 ≡ r.start
  pub works : (p : ℕ) → p < w → v (suc p) ≡ work r ds score v (suc p)

-- the start extended along a path, whose last node stands first
abbrev pub along : {X : Type 0} → Rule X → (ℕ → ℕ → ℤ) → List Node → X
along r score [] = r.start
along r score (n ∷ before) = r.extend (along r score before) (score n.column n.template)

abbrev pub join_all : {X : Type 0} → Rule X → List X → X
join_all r [] = r.none
join_all r (x ∷ xs) = r.join x (join_all r xs)

-- a list of all the paths that lead to a place, each of them once
pub record EachPathOnce (ds : List ℕ) (p : ℕ) (paths : List (List Node)) : Type 0 where
  pub lead : All (Leads ds p) paths
  pub every : (path : List Node) → Leads ds p path → Contains paths path
  pub once : AllPairs ◌≢◌ paths

-- the value at a place is the join, over all paths that lead there, of the start extended along the path, each path once
pub record Joins {X : Type 0} (r : Rule X) (ds : List ℕ) (score : ℕ → ℕ → ℤ) (p : ℕ) (v : X) : Type 0 where
  pub paths : List (List Node)
  pub each_once : EachPathOnce ds p paths
  pub value : v ≡ join_all r (map (along r score) paths)
