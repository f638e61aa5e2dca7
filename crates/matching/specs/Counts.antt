-- Counts and sums over the numbers below a limit, and the greatest of a stretch of values. Assumes nothing.
use Rattle.std.specs.Prelude.{◌≡◌, ℕ, zero, suc, ◌+◌, ◌<◌, ◌≤◌, Bool, cond, ℤ, pos, ◌+ℤ◌, ◌≤ℤ◌, ◌<ℤ◌, int_lt}
use Rattle.std.specs.Int.{int_max}

-- f 0 + … + f (n − 1)
unfoldable pub sum : ℕ → (ℕ → ℕ) → ℕ
sum zero f = 0
sum (suc n) f = sum n f + f n

unfoldable pub sum_signed : ℕ → (ℕ → ℤ) → ℤ
sum_signed zero f = pos 0
sum_signed (suc n) f = sum_signed n f +ℤ f n

abbrev pub one_if : Bool → ℕ
one_if b = cond b 1 0

-- how many of the numbers below n pass
abbrev pub count_of : ℕ → (ℕ → Bool) → ℕ
count_of n p = sum n (λ i. one_if (p i))

-- the greatest of f a, …, f (a + n)
unfoldable pub greatest : (ℕ → ℤ) → ℕ → ℕ → ℤ
greatest f a zero = f a
greatest f a (suc n) = int_max (f (a + suc n)) (greatest f a n)

-- the lowest of 0, …, n whose value none is above
unfoldable pub lowest : (ℕ → ℤ) → ℕ → ℕ
lowest f zero = 0
lowest f (suc n) = cond (int_lt (f (lowest f n)) (f (suc n))) (suc n) (lowest f n)

-- what they are called: the greatest is reached, and none is above
pub record IsGreatest (f : ℕ → ℤ) (a n : ℕ) (v : ℤ) : Type 0 where
  pub at : ℕ
  pub within : at ≤ n
  pub reached : f (a + at) ≡ v
  pub none_above : (i : ℕ) → i ≤ n → f (a + i) ≤ℤ v

-- none is above the value at i, and all before i are below it
pub record IsLowest (f : ℕ → ℤ) (n i : ℕ) : Type 0 where
  pub within : i ≤ n
  pub none_above : (k : ℕ) → k ≤ n → f k ≤ℤ f i
  pub first : (k : ℕ) → k < i → f k <ℤ f i
