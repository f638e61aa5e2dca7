-- The layout of a face, in words. Assumes nothing.
use Rattle.std.specs.Prelude.{◌≡◌, ℕ, ◌+◌, ◌*◌, ◌<◌, ◌≤◌, List, length, pos, neg_ℤ, ◌≤ℤ◌}
use Rattle.octets.specs.Bits.{Bit}
use Rattle.octets.specs.Numbers.{byte_at}
use Rattle.face.specs.Fields.{count, levels, height, gamma, beta, template_start, name, setwidth, box_width, prior, word_start, word_at, columns_before}

-- the weights of level l
pub record LevelLaid (face : List ℕ) (l : ℕ) : Type 0 where
  pub over_black : (neg_ℤ (pos 1000) ≤ℤ gamma face l) × (gamma face l ≤ℤ pos 1000)
  pub per_pixel : (neg_ℤ (pos 1000) ≤ℤ beta face l) × (beta face l ≤ℤ pos 1000)

-- the eight bytes of template t
pub record TemplateLaid (face : List ℕ) (t : ℕ) : Type 0 where
  pub named : (33 ≤ name face t) × (name face t ≤ 126)
  pub set : (1 ≤ setwidth face t) × (setwidth face t ≤ 64)
  pub boxed : box_width face t ≤ 32
  pub weighed : (neg_ℤ (pos 10000) ≤ℤ prior face t) × (prior face t ≤ℤ pos 0)
  pub spare : (byte_at face (template_start face t + 3) ≡ 0) × (byte_at face (template_start face t + 6) ≡ 0) × (byte_at face (template_start face t + 7) ≡ 0)

-- the word of level l in column c, where columns are counted over all templates; its bit i is the pixel in row i
abbrev pub column_word : List ℕ → ℕ → ℕ → ℕ
column_word face c l = word_at face (levels face * c + l)

-- its pixels lie in the box, and each in a row where no earlier level of the column has one
pub record WordLaid (face : List ℕ) (c l : ℕ) : Type 0 where
  pub inside : (i : ℕ) → Bit (column_word face c l) i → i < height face
  pub alone : (k : ℕ) → k < l → (i : ℕ) → Bit (column_word face c l) i → Bit (column_word face c k) i → ⊥

-- head, levels, templates and columns follow each other, and nothing follows them
pub record FaceLaid (face : List ℕ) : Type 0 where
  pub sized : (4 ≤ length face) × (length face ≤ 65536)
  pub counted : (1 ≤ count face) × (count face ≤ 64)
  pub levelled : (1 ≤ levels face) × (levels face ≤ 4)
  pub high : (1 ≤ height face) × (height face ≤ 32)
  pub levels_laid : (l : ℕ) → l < levels face → LevelLaid face l
  pub templates_laid : (t : ℕ) → t < count face → TemplateLaid face t
  pub ends : length face ≡ word_start face (levels face * columns_before face (count face))
  pub columns_laid : (c l : ℕ) → c < columns_before face (count face) → l < levels face → WordLaid face c l
