-- What the check of a sheet answers: the first refusal in the order of its checks. Assumes nothing.
use Rattle.std.specs.Prelude.{ℕ, ◌+◌, ◌/◌, ◌%◌, ◌≤◌, Bool, not, ◌&&◌, ◌||◌, List, [], ◌∷◌, length, ℤ, ◌==◌, int_le, nat_le}
use Rattle.octets.specs.Ranges.{from_to, signed_from_to}
use Rattle.refusal.specs.declared.Refusal.TheVariants.{SheetTruncated, SheetHead, SheetLength, SheetSetwidth, SheetScore, SheetOrder}
use Rattle.refusal.specs.First.{Verdict, ensure, ensure_each, first_refusal}
use Rattle.scorer.specs.Meaning.{least_score, greatest_score}
use Rattle.sheet_file.specs.Fields.{width, count, setwidth_start, setwidth, entries, entry_start, exact_at, bound_at}

abbrev pub setwidth_lawful : List ℕ → ℕ → Bool
setwidth_lawful sheet t = from_to 1 64 (setwidth sheet t)

-- entry j is a node: its template ends on the line
abbrev pub entry_node : List ℕ → ℕ → Bool
entry_node sheet j = nat_le (j % width sheet + setwidth sheet (j / width sheet)) (width sheet)

abbrev pub score_within : ℤ → Bool
score_within score = signed_from_to least_score greatest_score score

-- both scores of entry j are in range
abbrev pub scores_within : List ℕ → ℕ → Bool
scores_within sheet j = score_within (exact_at sheet j) && score_within (bound_at sheet j)

-- the exact score of entry j is not above its bound
abbrev pub scores_ordered : List ℕ → ℕ → Bool
scores_ordered sheet j = int_le (exact_at sheet j) (bound_at sheet j)

-- an entry that is no node may hold anything
abbrev pub score_lawful : List ℕ → ℕ → Bool
score_lawful sheet j = not (entry_node sheet j) || scores_within sheet j

abbrev pub order_lawful : List ℕ → ℕ → Bool
order_lawful sheet j = not (entry_node sheet j) || scores_ordered sheet j

-- both numbers of the head are there and in range
pub record Headed (sheet : List ℕ) : Type 0 where
  pub there : 4 ≤ length sheet
  pub wide : (1 ≤ width sheet) × (width sheet ≤ 2048)
  pub counted : (1 ≤ count sheet) × (count sheet ≤ 64)

abbrev pub head_verdict : List ℕ → Verdict
head_verdict sheet =
    first_refusal (
    ensure (nat_le 4 (length sheet)) (SheetTruncated (length sheet))
    ∷ ensure (from_to 1 2048 (width sheet)) (SheetHead 0)
    ∷ ensure (from_to 1 64 (count sheet)) (SheetHead 2)
    ∷ []
    )

abbrev pub length_verdict : List ℕ → Verdict
length_verdict sheet = ensure ((length sheet) == (entry_start sheet (entries sheet))) (SheetLength (length sheet))

abbrev pub setwidths_verdict : List ℕ → Verdict
setwidths_verdict sheet = ensure_each (count sheet) (setwidth_lawful sheet) (λ t. SheetSetwidth (setwidth_start t))

abbrev pub scores_verdict : List ℕ → Verdict
scores_verdict sheet = ensure_each (entries sheet) (score_lawful sheet) (λ j. SheetScore (entry_start sheet j))

abbrev pub orders_verdict : List ℕ → Verdict
orders_verdict sheet = ensure_each (entries sheet) (order_lawful sheet) (λ j. SheetOrder (entry_start sheet j))

abbrev pub checks_verdict : List ℕ → Verdict
checks_verdict sheet =
    first_refusal (
    head_verdict sheet
    ∷ length_verdict sheet
    ∷ setwidths_verdict sheet
    ∷ scores_verdict sheet
    ∷ orders_verdict sheet
    ∷ []
    )

unfoldable pub sheet_verdict : List ℕ → Verdict
sheet_verdict sheet = checks_verdict sheet
