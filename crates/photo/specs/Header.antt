-- The header of a photograph: how it is scanned, and what each scan refuses. Assumes nothing.
use Rattle.std.specs.Prelude.{ℕ, ◌+◌, ◌-◌, Bool, ◌&&◌, ◌||◌, List, map, length, drop, Ok, Result, ◌==◌, nat_le, nat_lt, slice_index}
use Rattle.std.specs.Int.Digits.{number_from_digits}
use Rattle.std.specs.List.{between, prefix_len}
use Rattle.refusal.specs.First.{ensure, after}
use Rattle.refusal.specs.declared.Refusal.{Refusal}
use Rattle.refusal.specs.declared.Refusal.TheVariants.{PhotographHeader}
use Rattle.photo.specs.declared.scan.Number.{Number}
use Rattle.photo.specs.declared.scan.Scan.{Scan}

-- white is blank, tab, line feed or carriage return
abbrev pub white : ℕ → Bool
white c = c == 32 || c == 9 || c == 10 || c == 13

abbrev pub digit : ℕ → Bool
digit c = nat_le 48 c && nat_le c 57

-- the first byte from i on that fails a test, or the end
unfoldable pub run_end : (ℕ → Bool) → List ℕ → ℕ → ℕ
run_end test photo i = i + prefix_len test (drop i photo)

-- the number that digits write
unfoldable pub decimal : List ℕ → ℕ
decimal digits = number_from_digits 10 (map (λ c. c - 48) digits)

-- white bytes from i on, at least one, and where they end
abbrev pub scan_white : List ℕ → ℕ → Result ℕ Refusal
scan_white photo i =
    after (ensure (nat_lt i (run_end white photo i)) (PhotographHeader i)) (λ _. Ok (run_end white photo i))

-- one to five digits from i on
abbrev pub scan_number : List ℕ → ℕ → Result Number Refusal
scan_number photo i =
    after (ensure (nat_lt i (run_end digit photo i)) (PhotographHeader i)) (λ _.
    after (ensure (nat_le (run_end digit photo i - i) 5) (PhotographHeader (i + 5))) (λ _.
    Ok (record { value = decimal (between i (run_end digit photo i) photo); start = i; end = run_end digit photo i })))

-- one white byte at i
abbrev pub scan_one_white : List ℕ → ℕ → Result ℕ Refusal
scan_one_white photo i = after (ensure (nat_lt i (length photo) && white (slice_index photo i)) (PhotographHeader i)) (λ _. Ok (i + 1))

-- white bytes, width, white bytes, height, one white byte
abbrev pub scan_header : List ℕ → Result Scan Refusal
scan_header photo =
    after (scan_white photo 2) (λ w.
    after (scan_number photo w) (λ width.
    after (scan_white photo width.end) (λ h.
    after (scan_number photo h) (λ height.
    after (scan_one_white photo height.end) (λ raster.
    Ok (record { width = width; height = height; raster = raster }))))))
