-- A window over a lawful line is lawful. Assumes nothing.
use Rattle.std.specs.Prelude.{◌≡◌, ℕ, ◌+◌, ◌≤◌, Bool, true, false, cond, nat_le, refl}
use Rattle.std.proofs.Common.{arith}
use Rattle.std.proofs.lemmas.Bool.{and_parts, leb-true}
use Rattle.scorer.specs.Meaning.{Meaning, Lawful, Node}
use Rattle.scorer.specs.Nodes.{node_known, node_ends, node_from}
use Rattle.scorer.specs.Window.{window_fits, windowed, window_meaning}

module _ (m : Meaning) (a width : ℕ) (fits : window_fits m.width a width ≡ true) where
  some : 1 ≤ width
  some = leb-true 1 width (and_parts (nat_le 1 width) (nat_le (a + width) m.width) fits).0

  inside : a + width ≤ m.width
  inside = leb-true (a + width) m.width (and_parts (nat_le 1 width) (nat_le (a + width) m.width) fits).1

  -- a node of the window is one below
  pub node_below : (x t : ℕ) → Node (windowed m a width) x t → Node m (a + x) t
  node_below x t n =
      node_from m (a + x) t (node_known (windowed m a width) x t n) (omega (arith, inside, node_ends (windowed m a width) x t n))

  windowed_lawful : Lawful m → Lawful (windowed m a width)
  windowed_lawful l = record {
    wide = (some, omega (arith, inside, l.wide.1));
    counted = l.counted;
    set = l.set;
    scored = λ x t n. l.scored (a + x) t (node_below x t n);
  }

either : (m n : Meaning) (b : Bool) → (b ≡ true → Lawful n) → Lawful m → Lawful (cond b n m)
either m n true l _ = l refl
either m n false _ l = l

pub window_lawful : (m : Meaning) (a width : ℕ) → Lawful m → Lawful (window_meaning m a width)
window_lawful m a width l =
    either m (windowed m a width) (window_fits m.width a width) (λ fits. windowed_lawful m a width fits l) l
