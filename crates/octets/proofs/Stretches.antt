-- A number that lies in a stretch of the bytes. Assumes nothing.
use Rattle.std.proofs.Common.{◌≡◌, ℕ, ◌+◌, ◌-◌, ◌*◌, ◌<◌, ◌≤◌, true, cond, leb, List, length, get_or, sym, refl, ap, ◌∙◌, arith}
use Rattle.std.proofs.lemmas.List.Edits.{length-between, get_or-between}
use Rattle.std.proofs.lemmas.Bool.{le-leb}
use Rattle.std.specs.List.{between}
use Rattle.octets.specs.Numbers.{u32_at}

module _ (bytes : List ℕ) (a b i : ℕ) (fits : a + i + 4 ≤ b) (inside : b ≤ length bytes) where
  byte_in : (k j : ℕ) → k < 4 → i + k ≡ j → get_or (between a b bytes) j 0 ≡ get_or bytes (a + i + k) 0
  byte_in k j h e =
      let at : a + j ≡ a + i + k = omega arith in
      get_or-between bytes a b j 0 (omega arith) ∙ ap (λ q. get_or bytes q 0) at

  pub u32_between : u32_at (between a b bytes) i ≡ u32_at bytes (a + i)
  unfolding u32_at
  u32_between =
      let n : length (between a b bytes) ≡ b - a = length-between bytes a b inside in
      let here : leb (i + 4) (length (between a b bytes)) ≡ true = le-leb (i + 4) (length (between a b bytes)) (omega arith) in
      let there : leb (a + i + 4) (length bytes) ≡ true = le-leb (a + i + 4) (length bytes) (omega arith) in
      let at : a + i + 0 ≡ a + i = omega arith in
      let b0 : get_or (between a b bytes) i 0 ≡ get_or bytes (a + i) 0 = byte_in 0 i (omega arith) (omega arith) ∙ ap (λ q. get_or bytes q 0) at in
      let b1 = byte_in 1 (i + 1) (omega arith) refl in
      let b2 = byte_in 2 (i + 2) (omega arith) refl in
      let b3 = byte_in 3 (i + 3) (omega arith) refl in
      ap (λ t. cond t (get_or (between a b bytes) i 0 + get_or (between a b bytes) (i + 1) 0 * 256 + get_or (between a b bytes) (i + 2) 0 * 65536 + get_or (between a b bytes) (i + 3) 0 * 16777216) 0) here
      ∙ (λ k. b0 k + b1 k * 256 + b2 k * 65536 + b3 k * 16777216)
      ∙ sym (ap (λ t. cond t (get_or bytes (a + i) 0 + get_or bytes (a + i + 1) 0 * 256 + get_or bytes (a + i + 2) 0 * 65536 + get_or bytes (a + i + 3) 0 * 16777216) 0) there)
