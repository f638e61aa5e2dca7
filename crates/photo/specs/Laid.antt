-- The layout of a photograph, in words. Assumes nothing.
use Rattle.std.specs.Prelude.{◌≡◌, ℕ, ◌+◌, ◌*◌, ◌≤◌, true, List, ◌∷◌, ◌++◌, length, Ok, Result}
use Rattle.std.specs.List.{AllByRecursion}
use Rattle.refusal.specs.declared.Refusal.{Refusal}
use Rattle.photo.specs.declared.scan.Header.{Header}
use Rattle.photo.specs.Header.{white, digit, decimal}
use Rattle.photo.specs.Verdict.{stride}

-- white bytes, at least one
pub record Gap (bytes : List ℕ) : Type 0 where
  pub some : 1 ≤ length bytes
  pub all_white : AllByRecursion (λ c. white c ≡ true) bytes

-- one to five digits
pub record Numeral (bytes : List ℕ) : Type 0 where
  pub some : 1 ≤ length bytes
  pub few : length bytes ≤ 5
  pub all_digits : AllByRecursion (λ c. digit c ≡ true) bytes

-- the bytes are P4, a gap, the width, a gap, the height, one white byte and the raster
pub record PhotographLaid (photo : List ℕ) (rows : ℕ) (h : Header) : Type 0 where
  pub gap_one : List ℕ
  pub width_digits : List ℕ
  pub gap_two : List ℕ
  pub height_digits : List ℕ
  pub last_white : ℕ
  pub raster_bytes : List ℕ
  pub size : length photo ≤ 16384
  pub pieces : photo ≡ 80 ∷ 52 ∷ gap_one ++ (width_digits ++ (gap_two ++ (height_digits ++ (last_white ∷ raster_bytes))))
  pub is_gap_one : Gap gap_one
  pub is_width : Numeral width_digits
  pub is_gap_two : Gap gap_two
  pub is_height : Numeral height_digits
  pub is_white : white last_white ≡ true
  pub wide : h.width ≡ decimal width_digits
  pub width_within : (1 ≤ h.width) × (h.width ≤ 2048)
  pub high : decimal height_digits ≡ rows
  pub whole : length raster_bytes ≡ rows * stride h.width
  pub begins : h.raster + length raster_bytes ≡ length photo

-- an answer tells a header exactly if the layout holds with it
pub record TellsExactly (photo : List ℕ) (rows : ℕ) (answer : Result Header Refusal) : Type 0 where
  pub sound : (h : Header) → answer ≡ Ok h → PhotographLaid photo rows h
  pub complete : (h : Header) → PhotographLaid photo rows h → answer ≡ Ok h
