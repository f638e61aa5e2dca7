-- Paths through a line: what they are, their totals, their order, and the first best one. Assumes nothing.
use Rattle.std.specs.Prelude.{◌≡◌, ℕ, ◌+◌, ◌<◌, ◌≤◌, ◌⊎◌, List, [], ◌∷◌, map, reverse, length, ℤ, pos, ◌+ℤ◌, ◌≤ℤ◌, slice_index}
use Rattle.std.specs.List.{range_with_len}
use Rattle.scorer.specs.Meaning.{Meaning}
use Rattle.paths.specs.declared.Node.{Node}

-- the setwidths of a line's templates, by their numbers
abbrev pub setwidths_of : Meaning → List ℕ
setwidths_of m = map m.setwidth (range_with_len 0 m.count)

-- every template takes up a column or more
abbrev pub Positive : List ℕ → Type 0
Positive ds = (t : ℕ) → t < length ds → 1 ≤ slice_index ds t

-- the place where a node ends
abbrev pub end_of : List ℕ → Node → ℕ
end_of ds n = n.column + slice_index ds n.template

-- nodes from the left: the first at column x, each later one at the end of the one before, the last ending at w
abbrev pub Runs : List ℕ → ℕ → ℕ → List Node → Type 0
Runs ds x w [] = x ≡ w
Runs ds x w (n ∷ later) = (n.template < length ds) × (n.column ≡ x) × Runs ds (end_of ds n) w later

abbrev pub Complete : List ℕ → ℕ → List Node → Type 0
Complete ds w nodes = Runs ds 0 w nodes

-- the same from the right: nodes, the last one first, that lead from place 0 to place p
abbrev pub Leads : List ℕ → ℕ → List Node → Type 0
Leads ds p [] = p ≡ 0
Leads ds p (n ∷ before) = (n.template < length ds) × (end_of ds n ≡ p) × Leads ds n.column before

-- the sum of the scores of some nodes
abbrev pub total : (ℕ → ℕ → ℤ) → List Node → ℤ
total score [] = pos 0
total score (n ∷ others) = total score others +ℤ score n.column n.template

-- the order of paths, their last nodes first: at the first difference the lower template comes first
abbrev pub Earlier : List Node → List Node → Type 0
Earlier [] [] = ⊥
Earlier [] (m ∷ ms) = ⊥
Earlier (n ∷ ns) [] = ⊥
Earlier (n ∷ ns) (m ∷ ms) = (n.template < m.template) ⊎ ((n ≡ m) × Earlier ns ms)

-- no path to the place has a greater total, and every other one with this total comes later
pub record FirstBest (ds : List ℕ) (score : ℕ → ℕ → ℤ) (p : ℕ) (path : List Node) : Type 0 where
  pub leads : Leads ds p path
  pub greatest : (other : List Node) → Leads ds p other → total score other ≤ℤ total score path
  pub first : (other : List Node) → Leads ds p other → total score other ≡ total score path → (other ≡ path) ⊎ Earlier path other

-- a complete path read from the left is one that leads to the end, read from the right
abbrev pub TurnsRound : Type 0
TurnsRound = (ds : List ℕ) (w : ℕ) (nodes : List Node) → (Complete ds w nodes → Leads ds w (reverse nodes)) × (Leads ds w (reverse nodes) → Complete ds w nodes)

-- the order is a strict total order of the paths that lead to a place
pub record Ordered (ds : List ℕ) (p : ℕ) : Type 0 where
  pub not_itself : (a : List Node) → Earlier a a → ⊥
  pub chain : (a b c : List Node) → Earlier a b → Earlier b c → Earlier a c
  pub either : (a b : List Node) → Leads ds p a → Leads ds p b → (a ≡ b) ⊎ (Earlier a b ⊎ Earlier b a)

-- where any path leads to a place, there is a first best one, and only one
pub record OneFirstBest (ds : List ℕ) (score : ℕ → ℕ → ℤ) (p : ℕ) : Type 0 where
  pub some : (path : List Node) → Leads ds p path → (best : List Node) × FirstBest ds score p best
  pub only : (a b : List Node) → FirstBest ds score p a → FirstBest ds score p b → a ≡ b
