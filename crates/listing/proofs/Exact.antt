-- A line is told exactly if face and photograph are laid out so. Assumes nothing.
use Rattle.std.proofs.Common.{◌≡◌, ℕ, ◌+◌, List, Ok, Result, sym, ap, ◌∙◌, inl, inr, ⊎_elim, arith}
use Rattle.face.specs.Fields.{count, height}
use Rattle.face.specs.Verdict.{face_verdict}
use Rattle.face.proofs.Exact as faces
use Rattle.photo.specs.Verdict.{photo_verdict}
use Rattle.photo.proofs.Exact as photos
use Rattle.refusal.specs.declared.Refusal.{Refusal}
use Rattle.refusal.proofs.First.{after_elim, after_ok}
use Rattle.listing.specs.Answer.{line_answer, Answers}
use Rattle.listing.specs.Laid.{Listed, ListsExactly}
use Rattle.listing.specs.declared.line.Line.{Line}

module _ (face photo : List ℕ) where
  listed : (line : Line) → line_answer face photo ≡ Ok line → Listed face photo line
  listed line e =
      after_elim (face_verdict face) _ line e (λ _ a e₁.
      after_elim (photo_verdict photo (height face + 4)) _ line e₁ (λ h b e₂.
      let same : ◌≡◌ {A = Line} (record { width = h.width; count = count face }) line = cc e₂ in
      record {
        header = h;
        is_face = (faces.exactly_laid face).0 a;
        is_photograph = (photos.exactly_laid photo (height face + 4)).sound h b;
        wide = sym (ap (λ l. l.width) same);
        counted = sym (ap (λ l. l.count) same);
      }))

  told : (line : Line) → Listed face photo line → line_answer face photo ≡ Ok line
  told line l =
      after_ok _ tt ((faces.exactly_laid face).1 l.is_face)
      ∙ after_ok _ l.header ((photos.exactly_laid photo (height face + 4)).complete l.header l.is_photograph)
      ∙ (λ k. Ok (record { width = sym l.wide k; count = sym l.counted k }))

  pub exactly_listed : (r : Result Line Refusal) → Answers (line_answer face photo) r → ListsExactly face photo r
  exactly_listed r answers = record {
    sound = λ line e. ⊎_elim
        (λ same. listed line (sym same ∙ e))
        (λ none. let z : ◌≡◌ {A = ℕ} 0 1 = cc (e, none.0) in absurd (omega arith))
        answers;
    complete = λ line l. ⊎_elim (λ same. inl (same ∙ told line l)) (λ none. inr none.0) answers;
  }
