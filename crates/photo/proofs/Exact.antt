-- The check of a photograph tells a header exactly if its layout holds with that header. Assumes nothing.
use Rattle.std.proofs.Common.{◌≡◌, ℕ, ◌+◌, ◌-◌, ◌*◌, ◌<◌, ◌≤◌, true, ◌&&◌, eqb, List, [], ◌∷◌, ◌++◌, length, get_or, drop, is_ok, Ok, Err, Result, sym, refl, ap, ◌∙◌, subst, arith}
use Rattle.std.proofs.lemmas.List.{append_assoc, length-append, length-drop, length-take, drop_more, get_or_at}
use Rattle.std.proofs.lemmas.Bool.{and_parts, and_from, eqb-true, eq-eqb, false≢true}
use Rattle.std.specs.List.{between, AllByRecursion}
use Rattle.octets.specs.Numbers.{byte_at}
use Rattle.octets.specs.Ranges.{from_to}
use Rattle.octets.proofs.Ranges.{decides_from_to}
use Rattle.refusal.specs.declared.Refusal.{Refusal}
use Rattle.refusal.specs.declared.Refusal.TheVariants.{PhotographKind, PhotographMeasure, PhotographRaster}
use Rattle.refusal.proofs.First.{after_elim, after_ensure, after_ok, after_met}
use Rattle.photo.specs.declared.scan.Header.{Header}
use Rattle.photo.specs.declared.scan.Number.{Number}
use Rattle.photo.specs.declared.scan.Scan.{Scan}
use Rattle.photo.specs.Header.{white, digit, run_end, decimal, scan_white, digit, scan_number, scan_one_white, digit, scan_header}
use Rattle.photo.specs.Laid.{Gap, Numeral, PhotographLaid, TellsExactly}
use Rattle.photo.specs.Verdict.{kind, stride, checks_verdict, photo_verdict, told_header, header_of}
use Rattle.photo.proofs.Runs.{run_all}
use Rattle.photo.proofs.Scans.{number_at, run_within, white_parts, white_is, number_parts, number_is, one_parts, one_is, run_splits, white_not_digit, Ends, digits_end_white, white_ends_digits, run_there}

front_two : (photo : List ℕ) → 2 ≤ length photo → byte_at photo 0 ≡ 80 → byte_at photo 1 ≡ 52 → photo ≡ 80 ∷ 52 ∷ drop 2 photo
unfolding byte_at
front_two [] long a b = absurd (omega arith)
front_two (x ∷ []) long a b = absurd (omega arith)
front_two (x ∷ y ∷ zs) long a b = λ i. a i ∷ b i ∷ zs

-- where the parts of the header that was scanned begin and end
pub record Marks (photo : List ℕ) (s : Scan) : Type 0 where
  pub w : ℕ
  pub h : ℕ
  pub w_is : w ≡ run_end white photo 2
  pub w_some : 2 < w
  pub width_is : s.width ≡ number_at photo w
  pub width_some : w < run_end digit photo w
  pub width_few : run_end digit photo w - w ≤ 5
  pub h_is : h ≡ run_end white photo (run_end digit photo w)
  pub h_some : run_end digit photo w < h
  pub height_is : s.height ≡ number_at photo h
  pub height_some : h < run_end digit photo h
  pub height_few : run_end digit photo h - h ≤ 5
  pub last_there : run_end digit photo h < length photo
  pub last_white : white (get_or photo (run_end digit photo h) 0) ≡ true
  pub raster_is : s.raster ≡ run_end digit photo h + 1

module _ (photo : List ℕ) where
  marked : (s : Scan) (w : ℕ) (width : Number) (h : ℕ) (height : Number) (r : ℕ) → scan_white photo 2 ≡ Ok w → scan_number photo w ≡ Ok width → scan_white photo width.end ≡ Ok h → scan_number photo h ≡ Ok height → scan_one_white photo height.end ≡ Ok r → ◌≡◌ {A = Result Scan Refusal} (Ok (record { width = width; height = height; raster = r })) (Ok s) → Marks photo s
  marked s w width h height r a b c d f e =
      let same : ◌≡◌ {A = Scan} (record { width = width; height = height; raster = r }) s = cc e in
      let pa = white_parts photo 2 w a in
      let pb = number_parts photo w width b in
      let pc = white_parts photo width.end h c in
      let pd = number_parts photo h height d in
      let pf = one_parts photo height.end r f in
      let wide : width.end ≡ run_end digit photo w = ap (λ n. n.end) pb.0 in
      let high : height.end ≡ run_end digit photo h = ap (λ n. n.end) pd.0 in
      record {
        w = w;
        h = h;
        w_is = pa.0;
        w_some = pa.1;
        width_is = ap (λ s. s.width) (sym same) ∙ pb.0;
        width_some = pb.1;
        width_few = pb.2;
        h_is = pc.0 ∙ ap (run_end white photo) wide;
        h_some = subst (λ q. q < h) wide pc.1;
        height_is = ap (λ s. s.height) (sym same) ∙ pd.0;
        height_some = pd.1;
        height_few = pd.2;
        last_there = subst (λ q. q < length photo) high pf.1;
        last_white = subst (λ q. white (get_or photo q 0) ≡ true) high pf.2;
        raster_is = ap (λ s. s.raster) (sym same) ∙ pf.0 ∙ ap (λ q. q + 1) high;
      }

  scanned : (s : Scan) → scan_header photo ≡ Ok s → Marks photo s
  scanned s e =
      after_elim (scan_white photo 2) _ s e (λ w a e₁.
      after_elim (scan_number photo w) _ s e₁ (λ width b e₂.
      after_elim (scan_white photo width.end) _ s e₂ (λ h c e₃.
      after_elim (scan_number photo h) _ s e₃ (λ height d e₄.
      after_elim (scan_one_white photo height.end) _ s e₄ (λ r f e₅.
      marked s w width h height r a b c d f e₅)))))

  -- the pieces that the marks cut the bytes into
  cut : (s : Scan) → 2 ≤ length photo → (m : Marks photo s) → drop 2 photo ≡ between 2 m.w photo ++ (between m.w (run_end digit photo m.w) photo ++ (between (run_end digit photo m.w) m.h photo ++ (between m.h (run_end digit photo m.h) photo ++ (get_or photo (run_end digit photo m.h) 0 ∷ drop s.raster photo))))
  cut s long m =
      let w = m.w in
      let e = run_end digit photo w in
      let h = m.h in
      let f = run_end digit photo h in
      let one = subst (λ q. drop 2 photo ≡ between 2 q photo ++ drop q photo) (sym m.w_is) (run_splits photo 2 white long) in
      let in-w : w ≤ length photo = omega (arith, m.w_is, run_within photo 2 white long) in
      let two = run_splits photo w digit in-w in
      let in_e : e ≤ length photo = omega (arith, run_within photo w digit in-w) in
      let three = subst (λ q. drop e photo ≡ between e q photo ++ drop q photo) (sym m.h_is) (run_splits photo e white in_e) in
      let in-h : h ≤ length photo = omega (arith, m.h_is, run_within photo e white in_e) in
      let four = run_splits photo h digit in-h in
      let five : drop f photo ≡ get_or photo f 0 ∷ drop s.raster photo = drop_more photo f 0 m.last_there ∙ ap (λ q. get_or photo f 0 ∷ drop q photo) (sym m.raster_is) in
      one ∙ ap (λ l. between 2 w photo ++ l) (two ∙ ap (λ l. between w e photo ++ l) (three ∙ ap (λ l. between e h photo ++ l) (four ∙ ap (λ l. between h f photo ++ l) five)))

  run_long : (i e : ℕ) → i ≤ e → e ≤ length photo → length (between i e photo) ≡ e - i
  run_long i e low high = simp (length-take, length-drop) (omega arith)

  gap_from : (i e : ℕ) → i ≤ length photo → e ≡ run_end white photo i → i < e → Gap (between i e photo)
  gap_from i e in-i is some =
      let high : e ≤ length photo = omega (arith, run_within photo i white in-i) in
      record {
        some = omega (arith, run_long i e (omega arith) high);
        all_white = subst (λ q. AllByRecursion (λ c. white c ≡ true) (between i q photo)) (sym is) (run_all white photo i);
      }

  numeral_from : (i : ℕ) → i ≤ length photo → i < run_end digit photo i → run_end digit photo i - i ≤ 5 → Numeral (between i (run_end digit photo i) photo)
  numeral_from i in-i some few =
      let size = run_long i (run_end digit photo i) (omega arith) (run_within photo i digit in-i).1 in
      record { some = omega arith; few = omega arith; all_digits = run_all digit photo i }

  -- what was scanned and passed the checks of its numbers is laid out so
  laid_from : (rows : ℕ) (s : Scan) (h : Header) → kind photo ≡ true → Marks photo s → from_to 1 2048 s.width.value ≡ true → eqb s.height.value rows ≡ true → eqb (length photo - s.raster) (rows * stride s.width.value) ≡ true → record { width = s.width.value; raster = s.raster } ≡ h → PhotographLaid photo rows h
  laid_from rows s h k m in-range as_high as_long same =
      let ks = and_parts (from_to 2 16384 (length photo) && eqb (byte_at photo 0) 80) (eqb (byte_at photo 1) 52) k in
      let kt = and_parts (from_to 2 16384 (length photo)) (eqb (byte_at photo 0) 80) ks.0 in
      let size = (decides_from_to 2 16384 (length photo)).0 kt.0 in
      let w = m.w in
      let e = run_end digit photo w in
      let f = run_end digit photo m.h in
      let in-w : w ≤ length photo = omega (arith, m.w_is, run_within photo 2 white size.0) in
      let in_e : e ≤ length photo = omega (arith, run_within photo w digit in-w) in
      let in-h : m.h ≤ length photo = omega (arith, m.h_is, run_within photo e white in_e) in
      let wide : s.width.value ≡ h.width = ap (λ h. h.width) same in
      let from : s.raster ≡ h.raster = ap (λ h. h.raster) same in
      let rest = length-drop s.raster photo in
      let size_is : length photo - s.raster ≡ rows * stride h.width = eqb-true _ _ as_long ∙ ap (λ q. rows * stride q) wide in
      let range = (decides_from_to 1 2048 s.width.value).0 in-range in
      record {
        gap_one = between 2 w photo;
        width_digits = between w e photo;
        gap_two = between e m.h photo;
        height_digits = between m.h f photo;
        last_white = get_or photo f 0;
        raster_bytes = drop s.raster photo;
        size = size.1;
        pieces = front_two photo size.0 (eqb-true _ _ kt.1) (eqb-true _ _ ks.1) ∙ ap (λ l. 80 ∷ 52 ∷ l) (cut s size.0 m);
        is_gap_one = gap_from 2 w size.0 m.w_is m.w_some;
        is_width = numeral_from w in-w m.width_some m.width_few;
        is_gap_two = gap_from e m.h in_e m.h_is m.h_some;
        is_height = numeral_from m.h in-h m.height_some m.height_few;
        is_white = m.last_white;
        wide = sym wide ∙ ap (λ n. n.value) m.width_is;
        width_within = (omega arith, omega arith);
        high = sym (ap (λ n. n.value) m.height_is) ∙ eqb-true _ _ as_high;
        whole = rest ∙ size_is;
        begins = omega (arith, m.raster_is, m.last_there);
      }

  pub laid_from_ok : (rows : ℕ) (h : Header) → checks_verdict photo rows ≡ Ok h → PhotographLaid photo rows h
  laid_from_ok rows h e =
      let a = after_ensure (kind photo) PhotographKind _ h e in
      after_elim (scan_header photo) _ h a.1 (λ s b e₁.
      let c = after_ensure (from_to 1 2048 s.width.value) (PhotographMeasure s.width.start) _ h e₁ in
      let d = after_ensure (eqb s.height.value rows) (PhotographMeasure s.height.start) _ h c.1 in
      let f = after_ensure (eqb (length photo - s.raster) (rows * stride s.width.value)) (PhotographRaster s.raster) _ h d.1 in
      let same : ◌≡◌ {A = Header} (record { width = s.width.value; raster = s.raster }) h = cc f.1 in
      laid_from rows s h a.0 (scanned s b) c.0 d.0 f.0 same)

-- bytes that are cut into the pieces of a header and a raster
module _ (photo g₁ d₁ g₂ d₂ : List ℕ) (last : ℕ) (rb : List ℕ) (pieces : photo ≡ 80 ∷ 52 ∷ g₁ ++ (d₁ ++ (g₂ ++ (d₂ ++ (last ∷ rb))))) (gap₁ : Gap g₁) (num₁ : Numeral d₁) (gap₂ : Gap g₂) (num₂ : Numeral d₂) (is_white : white last ≡ true) where
  -- the bytes before each piece
  abbrev f₀ : List ℕ
  f₀ = 80 ∷ 52 ∷ []

  abbrev f₁ : List ℕ
  f₁ = f₀ ++ g₁

  abbrev f₂ : List ℕ
  f₂ = f₁ ++ d₁

  abbrev f₃ : List ℕ
  f₃ = f₂ ++ g₂

  abbrev f₄ : List ℕ
  f₄ = f₃ ++ d₂

  at₁ : photo ≡ f₁ ++ (d₁ ++ (g₂ ++ (d₂ ++ (last ∷ rb))))
  at₁ = pieces ∙ sym (append_assoc f₀ g₁ (d₁ ++ (g₂ ++ (d₂ ++ (last ∷ rb)))))

  at₂ : photo ≡ f₂ ++ (g₂ ++ (d₂ ++ (last ∷ rb)))
  at₂ = at₁ ∙ sym (append_assoc f₁ d₁ (g₂ ++ (d₂ ++ (last ∷ rb))))

  at₃ : photo ≡ f₃ ++ (d₂ ++ (last ∷ rb))
  at₃ = at₂ ∙ sym (append_assoc f₂ g₂ (d₂ ++ (last ∷ rb)))

  at₄ : photo ≡ f₄ ++ (last ∷ rb)
  at₄ = at₃ ∙ sym (append_assoc f₃ d₂ (last ∷ rb))

  -- a gap and a number that stand where a scan comes to
  gap_scanned : (front run rest : List ℕ) → photo ≡ front ++ (run ++ rest) → Gap run → Ends white rest → scan_white photo (length front) ≡ Ok (length (front ++ run))
  gap_scanned front run rest e gap ends =
      let there = run_there white photo front run rest e gap.all_white ends in
      white_is photo (length front) (omega (arith, there.0, length-append front run, gap.some)) ∙ ap (λ n. Ok n) there.0

  numeral_scanned : (front run rest : List ℕ) → photo ≡ front ++ (run ++ rest) → Numeral run → Ends digit rest → scan_number photo (length front) ≡ Ok (record { value = decimal run; start = length front; end = length (front ++ run) })
  numeral_scanned front run rest e num ends =
      let there = run_there digit photo front run rest e num.all_digits ends in
      let long = length-append front run in
      number_is photo (length front) (omega (arith, there.0, num.some)) (omega (arith, there.0, num.few))
      ∙ (λ k. Ok (record { value = decimal (there.1 k); start = length front; end = there.0 k }))

  scan_is : Scan
  scan_is = record {
    width = record { value = decimal d₁; start = length f₁; end = length f₂ };
    height = record { value = decimal d₂; start = length f₃; end = length f₄ };
    raster = length f₄ + 1;
  }

  header_scanned : scan_header photo ≡ Ok scan_is
  unfolding scan_is
  header_scanned =
      after_ok _ (length f₁) (gap_scanned f₀ g₁ _ pieces gap₁ (digits_end_white d₁ _ num₁.some num₁.all_digits))
      ∙ after_ok _ _ (numeral_scanned f₁ d₁ _ at₁ num₁ (white_ends_digits g₂ _ gap₂.some gap₂.all_white))
      ∙ after_ok _ (length f₃) (gap_scanned f₂ g₂ _ at₂ gap₂ (digits_end_white d₂ _ num₂.some num₂.all_digits))
      ∙ after_ok _ _ (numeral_scanned f₃ d₂ _ at₃ num₂ (white_not_digit last is_white))
      ∙ after_ok _ (length f₄ + 1) (one_is photo (length f₄) there (ap white last_is ∙ is_white))
    where
      there : length f₄ < length photo
      there = omega (arith, ap length at₄, length-append f₄ (last ∷ rb))

      last_is : get_or photo (length f₄) 0 ≡ last
      last_is = ap (λ p. get_or p (length f₄) 0) at₄ ∙ get_or_at f₄ last rb 0 (length f₄) refl

  long : length photo ≡ length f₄ + 1 + length rb
  long = ap length at₄ ∙ length-append f₄ (last ∷ rb) ∙ omega arith

  of_kind : length photo ≤ 16384 → kind photo ≡ true
  unfolding byte_at
  of_kind size =
      let two : 2 ≤ length photo = omega (arith, ap length pieces) in
      and_from _ _ (and_from _ _ ((decides_from_to 2 16384 (length photo)).1 (two, size)) (eq-eqb _ _ (ap (λ p. get_or p 0 0) pieces))) (eq-eqb _ _ (ap (λ p. get_or p 1 0) pieces))

  checked : (rows : ℕ) (h : Header) → length photo ≤ 16384 → h.width ≡ decimal d₁ → (1 ≤ h.width) × (h.width ≤ 2048) → decimal d₂ ≡ rows → length rb ≡ rows * stride h.width → h.raster + length rb ≡ length photo → checks_verdict photo rows ≡ Ok h
  unfolding scan_is
  checked rows h size wide within high whole begins =
      let in-range = subst (λ q. from_to 1 2048 q ≡ true) wide ((decides_from_to 1 2048 h.width).1 within) in
      let left : length photo - (length f₄ + 1) ≡ rows * stride (decimal d₁) = subst (λ q. length photo - (length f₄ + 1) ≡ rows * stride q) wide (omega (arith, long)) in
      let from : length f₄ + 1 ≡ h.raster = omega (arith, long) in
      after_met PhotographKind _ (of_kind size)
      ∙ after_ok _ scan_is header_scanned
      ∙ after_met (PhotographMeasure (length f₁)) _ in-range
      ∙ after_met (PhotographMeasure (length f₃)) _ (eq-eqb _ _ high)
      ∙ after_met (PhotographRaster (length f₄ + 1)) _ (eq-eqb _ _ left)
      ∙ (λ k. Ok (record { width = sym wide k; raster = from k }))

pub exactly_laid : (photo : List ℕ) (rows : ℕ) → TellsExactly photo rows (photo_verdict photo rows)
unfolding photo_verdict
exactly_laid photo rows = record {
  sound = laid_from_ok photo rows;
  complete = λ h l. checked photo l.gap_one l.width_digits l.gap_two l.height_digits l.last_white l.raster_bytes l.pieces l.is_gap_one l.is_width l.is_gap_two l.is_height l.is_white rows h l.size l.wide l.width_within l.high l.whole l.begins;
}

pub laid_from_is_ok : (photo : List ℕ) (rows : ℕ) → is_ok (photo_verdict photo rows) ≡ true → PhotographLaid photo rows (header_of photo rows)
unfolding header_of
laid_from_is_ok photo rows h = (exactly_laid photo rows).sound (told_header (photo_verdict photo rows)) (told_ok (photo_verdict photo rows) h)
  where
    told_ok : (r : Result Header Refusal) → is_ok r ≡ true → r ≡ Ok (told_header r)
    told_ok (Ok x) h = refl
    told_ok (Err e) h = absurd (false≢true h)
