-- The check of a face refuses nothing exactly if its layout holds. Assumes nothing.
use Rattle.std.proofs.Common.{◌≡◌, ℕ, ◌+◌, ◌-◌, ◌*◌, ◌/◌, ◌%◌, ◌<◌, ◌≤◌, true, List, length, is_ok, Decides, sym, ap, ◌∙◌, subst, mul_comm, arith}
use Rattle.std.proofs.lemmas.Nat.{div-add-mod', div-mul-add, mod-mul-add, mod_below, div_below, mul-add-lt}
use Rattle.std.proofs.lemmas.Bool.Decides.{Decides-and, Decides-eqb, Decides-like}
use Rattle.octets.specs.Bits.{Bit}
use Rattle.octets.specs.Numbers.{byte_at}
use Rattle.octets.proofs.Bits.{bits_below, bits_apart}
use Rattle.octets.proofs.Ranges.{decides_leb, decides_from_to, decides_signed}
use Rattle.refusal.specs.First.{Exactly}
use Rattle.refusal.proofs.First.{decides_each, exactly_ensure, exactly_each, exactly_none, exactly_more, exactly_given, exactly_like, ok_from_is_ok}
use Rattle.refusal.specs.declared.Refusal.TheVariants.{FaceSize, FaceHead, FaceTruncated}
use Rattle.face.specs.Fields.{count, levels, height, gamma, beta, template_start, name, setwidth, box_width, prior, word_start, word_at, columns_before}
use Rattle.face.specs.Verdict.{Headed, sized, level_lawful, spare_lawful, template_lawful, words, word_lawful, levels_verdict, templates_verdict, length_verdict, words_verdict, head_verdict, face_verdict}
use Rattle.face.specs.Laid.{LevelLaid, TemplateLaid, WordLaid, FaceLaid}

module _ (face : List ℕ) where
  decides_level : (l : ℕ) → Decides (level_lawful face l) (LevelLaid face l)
  decides_level l =
      Decides-like (level_lawful face l)
      (λ p. record { over_black = p.0; per_pixel = p.1 })
      (λ r. (r.over_black, r.per_pixel))
      (Decides-and _ _ (decides_signed _ _ (gamma face l)) (decides_signed _ _ (beta face l)))

  decides_spare : (i : ℕ) → Decides (spare_lawful face i) ((byte_at face (i + 3) ≡ 0) × (byte_at face (i + 6) ≡ 0) × (byte_at face (i + 7) ≡ 0))
  decides_spare i =
      Decides-like (spare_lawful face i) (λ p. (p.0.0, p.0.1, p.1)) (λ p. ((p.0, p.1), p.2))
      (Decides-and _ _ (Decides-and _ _ (Decides-eqb _ 0) (Decides-eqb _ 0)) (Decides-eqb _ 0))

  decides_template : (t : ℕ) → Decides (template_lawful face t) (TemplateLaid face t)
  decides_template t =
      Decides-like (template_lawful face t)
      (λ p. record { named = p.0.0.0.0; set = p.0.0.0.1; boxed = p.0.0.1; weighed = p.0.1; spare = p.1 })
      (λ r. ((((r.named, r.set), r.boxed), r.weighed), r.spare))
      (Decides-and _ _
      (Decides-and _ _
      (Decides-and _ _ (Decides-and _ _ (decides_from_to 33 126 (name face t)) (decides_from_to 1 64 (setwidth face t))) (decides_leb (box_width face t) 32))
      (decides_signed _ _ (prior face t)))
      (decides_spare (template_start face t)))

  -- word j is that of level l in column c
  module _ (c l : ℕ) (within : l < levels face) where
    level_of : (levels face * c + l) % levels face ≡ l
    level_of = ap (λ q. (q + l) % levels face) (mul_comm (levels face) c) ∙ mod-mul-add c (levels face) l within

    -- the words before word j in its column are those of the levels below l
    back : (k : ℕ) → k < l → levels face * c + l - (l - (k + 1) + 1) ≡ levels face * c + k
    back k h = omega arith

    decides_word : Decides (word_lawful face (levels face * c + l)) (WordLaid face c l)
    decides_word =
        let j = levels face * c + l in
        let w = word_at face j in
        Decides-like (word_lawful face j)
        (λ p. record {
          inside = p.0;
          alone = λ k h i v u.
              let n : l - (k + 1) < j % levels face = omega (arith, level_of) in
              p.1 (l - (k + 1)) n i v (subst (λ q. Bit (word_at face q) i) (sym (back k h)) u);
        })
        (λ r. (
          r.inside,
          λ k h i v u.
              let low : k < l = omega (arith, level_of) in
              let same : j - (k + 1) ≡ levels face * c + (l - (k + 1)) = omega arith in
              r.alone (l - (k + 1)) (omega arith) i v (subst (λ q. Bit (word_at face q) i) same u),
        ))
        (Decides-and _ _ (bits_below w (height face)) (decides_each (j % levels face) _ _ (λ k _. bits_apart w (word_at face (j - (k + 1))))))

  -- each word is that of some level in some column
  decides_word_at : (j : ℕ) → 1 ≤ levels face → Decides (word_lawful face j) (WordLaid face (j / levels face) (j % levels face))
  decides_word_at j some =
      let at : levels face * (j / levels face) + j % levels face ≡ j = ap (λ q. q + j % levels face) (mul_comm (levels face) (j / levels face)) ∙ div-add-mod' j (levels face) in
      subst (λ q. Decides (word_lawful face q) (WordLaid face (j / levels face) (j % levels face))) at
      (decides_word (j / levels face) (j % levels face) (mod_below j (levels face) some))

  exactly_words : 1 ≤ levels face → Exactly (words_verdict face) ((c l : ℕ) → c < columns_before face (count face) → l < levels face → WordLaid face c l)
  exactly_words some =
      exactly_like (words_verdict face)
      (λ all c l h k.
      let laid = all (c * levels face + l) (mul-add-lt c (levels face) l (columns_before face (count face)) h k) in
      subst (λ q. WordLaid face q l) (div-mul-add c (levels face) l k) (subst (λ q. WordLaid face ((c * levels face + l) / levels face) q) (mod-mul-add c (levels face) l k) laid))
      (λ all j h. all (j / levels face) (j % levels face) (div_below j (levels face) (columns_before face (count face)) some (omega (arith, mul_comm (levels face) (columns_before face (count face))))) (mod_below j (levels face) some))
      (exactly_each (words face) (word_lawful face) _ (λ j. WordLaid face (j / levels face) (j % levels face)) (λ j _. decides_word_at j some))

  pub exactly_head : Exactly (head_verdict face) (Headed face)
  exactly_head =
      exactly_like (head_verdict face)
      (λ p. record { size = p.0.1; counted = p.1.0; levelled = p.1.1.0; high = p.1.1.1.0; there = p.1.1.1.1.0 })
      (λ r. ((omega (arith, r.there), r.size), (r.counted, (r.levelled, (r.high, (r.there, tt))))))
      (exactly_more _ _ (exactly_ensure (sized face) FaceSize (decides_from_to 4 65536 (length face)))
      (exactly_more _ _ (exactly_ensure _ (FaceHead 0) (decides_from_to 1 64 (count face)))
      (exactly_more _ _ (exactly_ensure _ (FaceHead 2) (decides_from_to 1 4 (levels face)))
      (exactly_more _ _ (exactly_ensure _ (FaceHead 3) (decides_from_to 1 32 (height face)))
      (exactly_more _ _ (exactly_ensure _ (FaceTruncated (length face)) (decides_leb (template_start face (count face)) (length face))) exactly_none)))))

  pub exactly_laid : Exactly (face_verdict face) (FaceLaid face)
  unfolding face_verdict
  exactly_laid =
      exactly_like (face_verdict face)
      (λ p. record {
        sized = (omega (arith, p.0.there), p.0.size);
        counted = p.0.counted;
        levelled = p.0.levelled;
        high = p.0.high;
        levels_laid = p.1.0;
        templates_laid = p.1.1.0;
        ends = p.1.1.1.0;
        columns_laid = p.1.1.1.1.0;
      })
      (λ r. (record { size = r.sized.1; counted = r.counted; levelled = r.levelled; high = r.high; there = omega (arith, r.ends) }, (r.levels_laid, (r.templates_laid, (r.ends, (r.columns_laid, tt))))))
      (exactly_given (head_verdict face) _ exactly_head (λ h.
      exactly_more (levels_verdict face) _ (exactly_each (levels face) (level_lawful face) _ _ (λ l _. decides_level l))
      (exactly_more (templates_verdict face) _ (exactly_each (count face) (template_lawful face) _ _ (λ t _. decides_template t))
      (exactly_more (length_verdict face) _ (exactly_ensure _ _ (Decides-eqb (length face) (word_start face (words face))))
      (exactly_more (words_verdict face) _ (exactly_words h.levelled.0) exactly_none)))))

-- what a face that is refused nothing is
pub laid_from_is_ok : (face : List ℕ) → is_ok (face_verdict face) ≡ true → FaceLaid face
laid_from_is_ok face ok = (exactly_laid face).0 (ok_from_is_ok (face_verdict face) ok)
