-- What the check of a face answers: the first refusal in the order of its checks. Assumes nothing.
use Rattle.std.specs.Prelude.{ℕ, ◌+◌, ◌-◌, ◌*◌, ◌%◌, ◌^◌, ◌≤◌, Bool, ◌&&◌, List, [], ◌∷◌, length, pos, neg_ℤ, ◌==◌, bit_and, nat_le, nat_lt}
use Rattle.octets.specs.Numbers.{byte_at}
use Rattle.octets.specs.Ranges.{from_to, signed_from_to}
use Rattle.refusal.specs.declared.Refusal.TheVariants.{FaceSize, FaceHead, FaceTruncated, FaceLevel, FaceTemplate, FaceLength, FaceWord}
use Rattle.refusal.specs.First.{Verdict, each, ensure, ensure_each, first_refusal}
use Rattle.face.specs.Fields.{count, levels, height, level_start, gamma, beta, template_start, name, setwidth, box_width, prior, word_start, word_at, columns_before}

abbrev pub sized : List ℕ → Bool
sized face = from_to 4 65536 (length face)

-- both weights of level l are in range
abbrev pub level_lawful : List ℕ → ℕ → Bool
level_lawful face l =
    signed_from_to (neg_ℤ (pos 1000)) (pos 1000) (gamma face l) && signed_from_to (neg_ℤ (pos 1000)) (pos 1000) (beta face l)

-- the three bytes of no use in the template that begins at i
abbrev pub spare_lawful : List ℕ → ℕ → Bool
spare_lawful face i = byte_at face (i + 3) == 0 && byte_at face (i + 6) == 0 && byte_at face (i + 7) == 0

-- each field of template t is in range, and its spare bytes are 0
abbrev pub template_lawful : List ℕ → ℕ → Bool
template_lawful face t =
    from_to 33 126 (name face t) && from_to 1 64 (setwidth face t) && nat_le (box_width face t) 32
    && signed_from_to (neg_ℤ (pos 10000)) (pos 0) (prior face t)
    && spare_lawful face (template_start face t)

-- how many words the columns of all boxes have, a word for each level
abbrev pub words : List ℕ → ℕ
words face = levels face * columns_before face (count face)

-- words that have no pixel in common
abbrev pub apart : ℕ → ℕ → Bool
apart v w = bit_and v w == 0

-- word j has no pixel below the box, and none that an earlier level of its column has
abbrev pub word_lawful : List ℕ → ℕ → Bool
word_lawful face j = nat_lt (word_at face j) (2 ^ height face)
    && each (j % levels face) (λ k. apart (word_at face j) (word_at face (j - (k + 1))))

abbrev pub levels_verdict : List ℕ → Verdict
levels_verdict face = ensure_each (levels face) (level_lawful face) (λ l. FaceLevel (level_start l))

abbrev pub templates_verdict : List ℕ → Verdict
templates_verdict face = ensure_each (count face) (template_lawful face) (λ t. FaceTemplate (template_start face t))

abbrev pub length_verdict : List ℕ → Verdict
length_verdict face = ensure (length face == word_start face (words face)) (FaceLength (length face))

abbrev pub words_verdict : List ℕ → Verdict
words_verdict face = ensure_each (words face) (word_lawful face) (λ j. FaceWord (word_start face j))

-- the three numbers of the head are in range, and levels and templates are there
pub record Headed (face : List ℕ) : Type 0 where
  pub size : length face ≤ 65536
  pub counted : (1 ≤ count face) × (count face ≤ 64)
  pub levelled : (1 ≤ levels face) × (levels face ≤ 4)
  pub high : (1 ≤ height face) × (height face ≤ 32)
  pub there : template_start face (count face) ≤ length face

abbrev pub head_verdict : List ℕ → Verdict
head_verdict face =
    first_refusal (
    ensure (sized face) FaceSize
    ∷ ensure (from_to 1 64 (count face)) (FaceHead 0)
    ∷ ensure (from_to 1 4 (levels face)) (FaceHead 2)
    ∷ ensure (from_to 1 32 (height face)) (FaceHead 3)
    ∷ ensure (nat_le (template_start face (count face)) (length face)) (FaceTruncated (length face))
    ∷ []
    )

abbrev pub checks_verdict : List ℕ → Verdict
checks_verdict face =
    first_refusal (
    head_verdict face
    ∷ levels_verdict face
    ∷ templates_verdict face
    ∷ length_verdict face
    ∷ words_verdict face
    ∷ []
    )

unfoldable pub face_verdict : List ℕ → Verdict
face_verdict face = checks_verdict face
