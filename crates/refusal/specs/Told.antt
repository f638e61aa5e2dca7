-- What each refusal tells: its number, its place and its template. Assumes nothing.
use Rattle.std.specs.Prelude.{ℕ, List, ◌++◌, Some, None, Option, codes}
use Rattle.std.specs.Fmt.{decimal}
use Rattle.refusal.specs.declared.Refusal.{Refusal}
use Rattle.refusal.specs.declared.Refusal.TheVariants.{FaceUnreadable, PhotographUnreadable, FaceSize, FaceHead, FaceTruncated, FaceLevel, FaceTemplate, FaceLength, FaceWord, PhotographKind, PhotographHeader, PhotographMeasure, PhotographRaster, SheetTruncated, SheetHead, SheetLength, SheetSetwidth, SheetScore, SheetOrder, WindowBeyond, CellsTooFew, NoCompletePath, RadiusTooLarge, OtherScorer, ExactAboveStanding, NoNode, NotSettled, NoPathNode, OutOfMemory}

pub record Telling : Type 0 where
  pub number : Option ℕ
  pub place : ℕ
  pub template : Option ℕ

-- number n at place p
abbrev at : ℕ → ℕ → Telling
at n p = record { number = Some n; place = p; template = None }

-- number n at column x, of template t
abbrev node : ℕ → ℕ → ℕ → Telling
node n x t = record { number = Some n; place = x; template = Some t }

abbrev pub told : Refusal → Telling
told FaceUnreadable = at 1 1
told PhotographUnreadable = at 1 2
told FaceSize = at 11 0
told (FaceHead byte) = at 12 byte
told (FaceTruncated length) = at 13 length
told (FaceLevel byte) = at 14 byte
told (FaceTemplate byte) = at 15 byte
told (FaceLength length) = at 16 length
told (FaceWord byte) = at 17 byte
told PhotographKind = at 21 0
told (PhotographHeader byte) = at 22 byte
told (PhotographMeasure byte) = at 23 byte
told (PhotographRaster byte) = at 24 byte
told (SheetTruncated length) = at 31 length
told (SheetHead byte) = at 32 byte
told (SheetLength length) = at 33 length
told (SheetSetwidth byte) = at 34 byte
told (SheetScore byte) = at 35 byte
told (SheetOrder byte) = at 36 byte
told (WindowBeyond first) = at 41 first
told (CellsTooFew needed) = at 51 needed
told (NoCompletePath width) = at 52 width
told (RadiusTooLarge radius) = at 61 radius
told OtherScorer = at 62 0
told (ExactAboveStanding column template) = node 63 column template
told (NoNode column template) = node 64 column template
told NotSettled = at 71 0
told (NoPathNode number) = at 72 number
told OutOfMemory = record { number = None; place = 0; template = None }

-- what is printed of a refusal: its number and its place; want of memory has no number
abbrev printed_of : Option ℕ → ℕ → List ℕ
printed_of (Some number) place = codes "REFUSED " ++ (decimal number ++ (codes " " ++ decimal place))
printed_of None place = codes "out of memory"

abbrev pub printed : Telling → List ℕ
printed t = printed_of t.number t.place
