-- What the check of a photograph answers: its header, or the first refusal in the order of its checks. Assumes nothing.
use Rattle.std.specs.Prelude.{ℕ, ◌+◌, ◌-◌, ◌*◌, ◌/◌, Bool, ◌&&◌, List, length, Ok, Err, Result, ◌==◌}
use Rattle.octets.specs.Numbers.{byte_at}
use Rattle.octets.specs.Ranges.{from_to}
use Rattle.refusal.specs.First.{ensure, after}
use Rattle.refusal.specs.declared.Refusal.{Refusal}
use Rattle.refusal.specs.declared.Refusal.TheVariants.{PhotographKind, PhotographMeasure, PhotographRaster}
use Rattle.photo.specs.declared.scan.Header.{Header}
use Rattle.photo.specs.Header.{scan_header}

-- not too long, and of the kind P4
abbrev pub kind : List ℕ → Bool
kind photo = from_to 2 16384 (length photo) && byte_at photo 0 == 80 && byte_at photo 1 == 52

-- the bytes of a row of width w
abbrev pub stride : ℕ → ℕ
stride w = (w + 7) / 8

abbrev pub checks_verdict : List ℕ → ℕ → Result Header Refusal
checks_verdict photo rows =
    after (ensure (kind photo) PhotographKind) (λ _.
    after (scan_header photo) (λ s.
    after (ensure (from_to 1 2048 s.width.value) (PhotographMeasure s.width.start)) (λ _.
    after (ensure (s.height.value == rows) (PhotographMeasure s.height.start)) (λ _.
    after (ensure (length photo - s.raster == rows * stride s.width.value) (PhotographRaster s.raster)) (λ _.
    Ok (record { width = s.width.value; raster = s.raster }))))))

unfoldable pub photo_verdict : List ℕ → ℕ → Result Header Refusal
photo_verdict photo rows = checks_verdict photo rows

-- the header of a photograph that is not refused
abbrev pub told_header : Result Header Refusal → Header
told_header (Ok h) = h
told_header (Err e) = record { width = 0; raster = 0 }

unfoldable pub header_of : List ℕ → ℕ → Header
header_of photo rows = told_header (photo_verdict photo rows)
