-- What a node is, in parts. Assumes nothing.
use Rattle.std.specs.Prelude.{ℕ, ◌+◌, ◌<◌, ◌≤◌, nat_le}
use Rattle.std.proofs.lemmas.Bool.{and_parts, and_from, ltb-true, leb-true, lt-ltb, le-leb}
use Rattle.scorer.specs.Meaning.{Meaning, Node, is_template}

module _ (m : Meaning) (x t : ℕ) where
  -- its template is known
  pub node_known : Node m x t → t < m.count
  node_known n = ltb-true t m.count (and_parts (is_template m t) (nat_le (x + m.setwidth t) m.width) n).0

  -- and ends on the line
  pub node_ends : Node m x t → x + m.setwidth t ≤ m.width
  node_ends n = leb-true (x + m.setwidth t) m.width (and_parts (is_template m t) (nat_le (x + m.setwidth t) m.width) n).1

  pub node_from : t < m.count → x + m.setwidth t ≤ m.width → Node m x t
  node_from known ends =
      and_from (is_template m t) (nat_le (x + m.setwidth t) m.width) (lt-ltb t m.count known) (le-leb (x + m.setwidth t) m.width ends)
