-- A file is judged by checks in a fixed order, and the first that fails refuses it. Assumes nothing.
use Rattle.std.specs.Prelude.{◌≡◌, ℕ, zero, suc, ◌+◌, ◌<◌, Bool, true, false, cond, List, [], ◌∷◌, Some, None, Ok, Err, Option, Result}
use Rattle.std.specs.List.{list_all, range_with_len}
use Rattle.refusal.specs.declared.Refusal.{Refusal}

-- what a check answers that yields nothing
abbrev pub Verdict : Type 0
Verdict = Result (Unit {0}) Refusal

-- e where the test fails
abbrev pub ensure : Bool → Refusal → Verdict
ensure true e = Ok tt
ensure false e = Err e

-- a check that yields a value, and what is checked of that value next
abbrev pub after : {X Y : Type 0} → Result X Refusal → (X → Result Y Refusal) → Result Y Refusal
after (Ok x) next = next x
after (Err e) next = Err e

-- of n things numbered from i on, the first that fails a test
unfoldable pub first_failing : (ℕ → Bool) → ℕ → ℕ → Option ℕ
first_failing test i zero = None
first_failing test i (suc n) = cond (test i) (first_failing test (i + 1) n) (Some i)

-- k is the first of n things that fails, or none does
abbrev pub IsFirst : (ℕ → Bool) → ℕ → Option ℕ → Type 0
IsFirst test n None = (i : ℕ) → i < n → test i ≡ true
IsFirst test n (Some k) = (k < n) × (test k ≡ false) × ((i : ℕ) → i < k → test i ≡ true)

-- each of n things passes
abbrev pub each : ℕ → (ℕ → Bool) → Bool
each n test = list_all test (range_with_len 0 n)

-- each of n things passes, or the first that fails is refused
abbrev pub refuse : Option ℕ → (ℕ → Refusal) → Verdict
refuse None e = Ok tt
refuse (Some k) e = Err (e k)

abbrev pub ensure_each : ℕ → (ℕ → Bool) → (ℕ → Refusal) → Verdict
ensure_each n test e = refuse (first_failing test 0 n) e

-- of each of n things that is asked, the answer is what a function tells
abbrev pub Tells : {X : Type 0} → ℕ → (ℕ → X → Type 0) → (ℕ → X) → Type 0
Tells {X} n answers value = (i : ℕ) (x : X) → i < n → answers i x → x ≡ value i

-- the first refusal of a list of checks
abbrev pub first_refusal : List Verdict → Verdict
first_refusal [] = Ok tt
first_refusal (Ok _ ∷ rest) = first_refusal rest
first_refusal (Err e ∷ rest) = Err e

-- a check refuses nothing exactly if P holds
abbrev pub Exactly : Verdict → Type 0 → Type 0
Exactly v P = (v ≡ Ok tt → P) × (P → v ≡ Ok tt)
