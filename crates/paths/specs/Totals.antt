-- Totals with last templates: what they say of paths. Assumes nothing.
use Rattle.std.specs.Prelude.{◌≡◌, ℕ, zero, suc, ◌-◌, ◌*◌, List, [], ◌∷◌, ℤ, pos, neg_ℤ, ◌≤ℤ◌, Some, None, Option, slice_index}
use Rattle.scorer.specs.Meaning.{ScoreWithin}
use Rattle.paths.specs.Paths.{Leads, FirstBest, total}
use Rattle.paths.specs.declared.Node.{Node}

-- the node by which the path to a place ends
abbrev pub last_node : List ℕ → (ℕ → ℕ) → ℕ → Node
last_node ds last p = record { column = p - slice_index ds (last p); template = last p }

-- last templates followed back from place p, at most n of them: the last node stands first
unfoldable pub follow_within : List ℕ → (ℕ → ℕ) → ℕ → ℕ → List Node
follow_within ds last zero zero = []
follow_within ds last zero (suc p) = []
follow_within ds last (suc n) zero = []
follow_within ds last (suc n) (suc p) =
    last_node ds last (suc p) ∷ follow_within ds last n (suc p - slice_index ds (last (suc p)))

unfoldable pub follow : List ℕ → (ℕ → ℕ) → ℕ → List Node
follow ds last p = follow_within ds last p p

-- nothing stands at a place exactly where no path leads; else last templates give the first best path, and its total stands there
pub record TellsBest (ds : List ℕ) (score : ℕ → ℕ → ℤ) (p : ℕ) (v : Option ℤ) (last : ℕ → ℕ) : Type 0 where
  pub unreached : v ≡ None → (path : List Node) → Leads ds p path → ⊥
  pub best : (z : ℤ) → v ≡ Some z → FirstBest ds score p (follow ds last p)
  pub its_total : (z : ℤ) → v ≡ Some z → total score (follow ds last p) ≡ z

-- every score is in the range of scores
abbrev pub Limited : (ℕ → ℕ → ℤ) → Type 0
Limited score = (x t : ℕ) → ScoreWithin (score x t)

-- a total of at most p scores
abbrev pub TotalWithin : ℕ → Option ℤ → Type 0
TotalWithin p None = Unit {0}
TotalWithin p (Some z) = (neg_ℤ (pos (4000000 * p)) ≤ℤ z) × (z ≤ℤ pos (4000000 * p))
