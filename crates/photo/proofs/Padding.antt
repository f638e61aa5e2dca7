-- Padding bits are not read. Assumes nothing.
use Rattle.std.proofs.Common.{◌≡◌, ℕ, ◌+◌, ◌-◌, ◌/◌, ◌%◌, ◌^◌, ◌<◌, ◌≤◌, Bool, true, false, ◌&&◌, eqb, ltb, List, sym, refl, ap, ◌∙◌, subst, arith}
use Rattle.std.proofs.lemmas.Nat.{shr-shr}
use Rattle.std.proofs.lemmas.Bool.{and_parts, ltb-true}
use Rattle.photo.specs.declared.scan.Header.{Header}
use Rattle.photo.specs.Pixels.{raster_byte, black_in, black_at, padding, PaddedAlike}
use Rattle.photo.specs.Verdict.{stride, header_of}

-- bytes that agree above their padding agree in each bit above it
shifted : (a b p j : ℕ) → p ≤ j → a / 2 ^ p ≡ b / 2 ^ p → a / 2 ^ j ≡ b / 2 ^ j
shifted a b p j h e =
    let s : p + (j - p) ≡ j = omega arith in
    subst (λ q. a / 2 ^ q ≡ b / 2 ^ q) s (sym (shr-shr a p (j - p)) ∙ ap (λ q. q / 2 ^ (j - p)) e ∙ shr-shr b p (j - p))

-- the bit of column x is no padding
above : (w x : ℕ) → x < w → padding w (x / 8) ≤ 7 - x % 8
above w x h = omega arith

both_alike : (t : Bool) (u v : Bool) → (t ≡ true → u ≡ v) → (t && u) ≡ (t && v)
both_alike true u v e = e refl
both_alike false u v e = refl

same_black : (rows : ℕ) (a b : List ℕ) (h : Header) → ((y k : ℕ) → y < rows → k < stride h.width → raster_byte a h y k / 2 ^ padding h.width k ≡ raster_byte b h y k / 2 ^ padding h.width k) → (x y : ℕ) → black_in a rows h x y ≡ black_in b rows h x y
same_black rows a b h same x y =
    both_alike (ltb x h.width && ltb y rows) _ _ (λ t.
    let inside = and_parts (ltb x h.width) (ltb y rows) t in
    let left : x < h.width = ltb-true x h.width inside.0 in
    let low : x / 8 < stride h.width = omega arith in
    ap (λ q. eqb (q % 2) 1) (shifted _ _ (padding h.width (x / 8)) (7 - x % 8) (above h.width x left) (same y (x / 8) (ltb-true y rows inside.1) low)))

pub padding_unread : (rows : ℕ) (a b : List ℕ) → PaddedAlike rows a b → (x y : ℕ) → black_at a rows x y ≡ black_at b rows x y
padding_unread rows a b alike x y =
    same_black rows a b (header_of a rows) alike.same_pixels x y ∙ ap (λ h. black_in b rows h x y) alike.same_header
