-- The entries of lists that are made from a function of the index, and of tables for 0 to 36 black pixels. Assumes nothing.
use Rattle.std.proofs.Common.{◌≡◌, ℕ, ◌+◌, ◌-◌, ◌*◌, ◌^◌, ◌<◌, ◌≤◌, List, replicate, subst, map, length, get_or, ltb, Option, Some, None, Bor, unwrap_or, refl, ⊎_elim, ℤ, pos, ◌+ℤ◌, ◌*ℤ◌, ap, ◌∙◌, sym, add-one, arith}
use lib.ListN.{length-replicate, get_or-replicate}
use Rattle.std.proofs.lemmas.Bool.{cases_lt, lt-ltb, le-ltb}
use Rattle.std.proofs.lemmas.Option.{slice_get-get_or, slice_get_read, slice_get_past, unwrap_or-slice_get}
use Rattle.std.proofs.lemmas.List.FromFn.{length-map-range_with_len, get_or-map-range_with_len, fill_by_all}
use Rattle.std.specs.List.{range_with_len, slice_get}
use Rattle.std.specs.Option.{UnwrapsOrElse, option_copied}
use Rattle.std.specs.Slice.{IsItemAt}
use Rattle.octets.specs.Absent.{present}
use Rattle.matching.specs.Column.{column_value, fewest, spread}
use Rattle.matching.specs.Counts.{sum, greatest}
use Rattle.matching.proofs.Column.{column_value_within}
use Rattle.matching.proofs.Ranges.{Within, within_more}
use Rattle.printed.specs.Values.{table_of, best_with_level, Small}

-- a question for an element, and for one or else another
pub got : {X : Type 0} (xs : List X) (i : ℕ) (o : Option (Bor X)) → IsItemAt xs i o → option_copied o ≡ slice_get xs i
got xs i None is = sym (slice_get_past xs i is.3)
got xs i (Some x) is = sym (slice_get_read xs (length xs) i x.now refl is.3.0 is.1)

pub get_listed : {X : Type 0} (f : ℕ → X) (n i : ℕ) → slice_get (map f (range_with_len 0 n)) i ≡ present (ltb i n) (f i)
get_listed f n i =
    ⊎_elim
    (λ lt. slice_get-get_or (map f (range_with_len 0 n)) i (f i) (omega (arith, length-map-range_with_len f 0 n)) ∙ ap Some (get_or-map-range_with_len f 0 n i i (f i) lt (omega arith)) ∙ sym (ap (λ b. present b (f i)) (lt-ltb i n lt)))
    (λ le. slice_get_past (map f (range_with_len 0 n)) i (omega (arith, length-map-range_with_len f 0 n)) ∙ sym (ap (λ b. present b (f i)) (le-ltb i n le)))
    (cases_lt i n)

pub got_or : {X : Type 0} {P : X → Type 0} (o : Option X) (xs : List X) (i : ℕ) (d r : X) → o ≡ slice_get xs i → ((x : X) → P x → x ≡ d) → UnwrapsOrElse o P r → r ≡ get_or xs i d
got_or {X} {P} o xs i d r e only is = unwrapped o r is ∙ ap (λ q. unwrap_or q d) e ∙ unwrap_or-slice_get xs i d
  where
    unwrapped : (o : Option X) (r : X) → UnwrapsOrElse o P r → r ≡ unwrap_or o d
    unwrapped None r is = only r is
    unwrapped (Some x) r is = is

pub entries : (f : ℕ → ℤ) → length (table_of f) ≡ 37
unfolding table_of
entries f = length-map-range_with_len f 0 37

pub entry : (f : ℕ → ℤ) (k : ℕ) → k < 37 → (d : ℤ) → get_or (table_of f) k d ≡ f k
unfolding table_of
entry f k h d = get_or-map-range_with_len f 0 37 k k d h (omega arith)

pub is_table : (f : ℕ → ℤ) (xs : List ℤ) → length xs ≡ 37 → ((k : ℕ) → k < 37 → get_or xs k (pos 0) ≡ f k) → xs ≡ table_of f
unfolding table_of
is_table f xs long each = fill_by_all f xs 37 (pos 0) long each

pub same_table : (f g : ℕ → ℤ) → ((k : ℕ) → k < 37 → f k ≡ g k) → table_of f ≡ table_of g
same_table f g each = is_table g (table_of f) (entries f) (λ k h. entry f k h (pos 0) ∙ each k h)

-- one level more
pub laid_level : (γ : ℕ → ℤ) (n : ℕ → ℕ) (free l : ℕ) (table : List ℤ) (w : ℤ) (count room black : ℕ) → w ≡ γ l → count ≡ n l → room ≡ free + sum l n → table ≡ table_of (column_value γ n free l) → black < 37 → best_with_level table w count room black ≡ column_value γ n free (l + 1) black
unfolding column_value
laid_level γ n free l table w count room black p q r before h =
    rw add-one (
    let rest : (k : ℕ) → get_or table (black - k) (pos 0) ≡ column_value γ n free l (black - k) = λ k. ap (λ xs. get_or xs (black - k) (pos 0)) before ∙ entry (column_value γ n free l) (black - k) (omega arith) (pos 0) in
    λ i. greatest (λ k. p i *ℤ pos k +ℤ rest k i) (fewest (r i) black) (spread (q i) (r i) black))

-- the levels of a box column: none of them, and how large an entry can be
pub no_level : (γ : ℕ → ℤ) (n : ℕ → ℕ) (free : ℕ) → replicate 37 (pos 0) ≡ table_of (column_value γ n free 0)
unfolding column_value
no_level γ n free = is_table (column_value γ n free 0) (replicate 37 (pos 0)) (length-replicate 37 (pos 0)) (λ k h. get_or-replicate 37 k (pos 0) (pos 0) h)

pub small_table : (γ : ℕ → ℤ) (n : ℕ → ℕ) (free l : ℕ) (table : List ℤ) → ((i : ℕ) → i < l → Within 1000 (γ i)) → l ≤ 4 → table ≡ table_of (column_value γ n free l) → Small table
small_table γ n free l table light few is k h =
    subst (Within (2 ^ 40)) (sym (ap (λ xs. get_or xs k (pos 0)) is ∙ entry (column_value γ n free l) k h (pos 0)))
    (within_more (l * (1000 * 36)) (2 ^ 40) _ (omega arith) (column_value_within γ n free 1000 36 l k light (omega arith)))
