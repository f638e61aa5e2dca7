-- The value of a box column is the greatest that a choice earns. Assumes nothing.
use Rattle.std.proofs.Common.{◌≡◌, ℕ, zero, suc, ◌+◌, ◌-◌, ◌*◌, ◌<◌, ◌≤◌, cond, eqb, ℤ, pos, ◌+ℤ◌, ◌*ℤ◌, ◌≤ℤ◌, sym, refl, ap, subst, ⊎_elim, arith}
use Rattle.std.proofs.lemmas.Int.{ints}
use Rattle.std.proofs.lemmas.Bool.{cases_lt, eq-eqb, ne_eqb}
use Rattle.matching.specs.Counts.{sum, sum_signed, greatest, IsGreatest}
use Rattle.matching.specs.Column.{gain, Choice, IsColumnValue, fewest, spread, column_value}
use Rattle.std.proofs.lemmas.Nat.{mul-le}
use Rattle.matching.proofs.Ranges.{Within}
use Rattle.matching.proofs.Sums.{sum_same, sum_signed_same, sum_le, greatest_is, times_within}

-- k with a as the count of level l
abbrev put : (ℕ → ℕ) → ℕ → ℕ → ℕ → ℕ
put k l a i = cond (eqb i l) a (k i)

put_here : (k : ℕ → ℕ) (l a : ℕ) → put k l a l ≡ a
put_here k l a = ap (λ b. cond b a (k l)) (eq-eqb l l refl)

put_below : (k : ℕ → ℕ) (l a i : ℕ) → i < l → put k l a i ≡ k i
put_below k l a i h = ap (λ b. cond b a (k i)) (ne_eqb i l (λ e. omega arith))

module _ (γ : ℕ → ℤ) (n : ℕ → ℕ) (free : ℕ) where
  -- one more level
  module _ (l black : ℕ) (fits : black ≤ free + sum l n + n l) (rest : (s : ℕ) → s ≤ free + sum l n → IsColumnValue γ n l free s (column_value γ n free l s)) where
    abbrev room : ℕ
    room = free + sum l n

    abbrev f : ℕ → ℤ
    f k = γ l *ℤ pos k +ℤ column_value γ n free l (black - k)

    abbrev v : ℤ
    v = greatest f (fewest room black) (spread (n l) room black)

    best : IsGreatest f (fewest room black) (spread (n l) room black) v
    best = greatest_is f (fewest room black) (spread (n l) room black)

    abbrev a : ℕ
    a = fewest room black + best.at

    a_few : a ≤ n l
    a_few = omega (arith, best.within)

    a_black : a ≤ black
    a_black = omega (arith, best.within)

    a_room : black - a ≤ room
    a_room = omega arith

    below : IsColumnValue γ n l free (black - a) (column_value γ n free l (black - a))
    below = rest (black - a) a_room

    abbrev k : ℕ → ℕ
    k = put below.choice l a

    k_sum : sum l k ≡ sum l below.choice
    k_sum = sum_same l k below.choice (λ i h. put_below below.choice l a i h)

    k_gain : gain γ l k ≡ gain γ l below.choice
    k_gain = sum_signed_same l _ _ (λ i h. ap (λ q. γ i *ℤ pos q) (put_below below.choice l a i h))

    here : k l ≡ a
    here = put_here below.choice l a

    more_allowed : Choice n (suc l) free black k
    unfolding sum
    more_allowed = record {
      few = λ i h. ⊎_elim
          (λ lt. subst (λ q. q ≤ n i) (sym (put_below below.choice l a i lt)) (below.allowed.few i lt))
          (λ le. let e : i ≡ l = omega arith in subst (λ j. k j ≤ n j) (sym e) (subst (λ q. q ≤ n l) (sym here) a_few))
          (cases_lt i l);
      not_over = omega (arith, k_sum, here, below.allowed.not_over, a_black);
      not_under = omega (arith, k_sum, here, below.allowed.not_under, a_black);
    }

    more_reached : gain γ (suc l) k ≡ v
    unfolding sum_signed
    more_reached =
        let e : γ l *ℤ pos (k l) ≡ γ l *ℤ pos a = ap (λ q. γ l *ℤ pos q) here in
        omega (arith, ints, k_gain, below.reached, e, best.reached)

    more_above : (c : ℕ → ℕ) → Choice n (suc l) free black c → gain γ (suc l) c ≤ℤ v
    unfolding sum sum_signed
    more_above c w =
        let few : c l ≤ n l = w.few l (omega arith) in
        let most : sum l c ≤ sum l n = sum_le l c n (λ i h. w.few i (omega arith)) in
        let over = w.not_over in
        let under = w.not_under in
        let i : ℕ = c l - fewest room black in
        let at : fewest room black + i ≡ c l = omega arith in
        let r = rest (black - c l) (omega arith) in
        let w' : Choice n l free (black - c l) c = record { few = λ j h. w.few j (omega arith); not_over = omega arith; not_under = omega arith } in
        omega (arith, ints, r.none_above c w', best.none_above i (omega arith), ap f at)

    one_more : IsColumnValue γ n (suc l) free black v
    one_more = record { choice = k; allowed = more_allowed; reached = more_reached; none_above = more_above }

  pub column_value_is : (l black : ℕ) → black ≤ free + sum l n → IsColumnValue γ n l free black (column_value γ n free l black)
  unfolding column_value sum sum_signed
  column_value_is zero black h = record {
    choice = λ _. 0;
    allowed = record { few = λ i p. absurd (omega arith); not_over = omega arith; not_under = omega arith };
    reached = refl;
    none_above = λ k w. omega (arith, ints);
  }
  column_value_is (suc l) black h = one_more l black (omega arith) (λ s p. column_value_is l s p)

  -- how large a value can be, whatever the counts
  module _ (b most : ℕ) where
    pub column_value_within : (l black : ℕ) → ((i : ℕ) → i < l → Within b (γ i)) → black ≤ most → Within (l * (b * most)) (column_value γ n free l black)
    unfolding column_value
    column_value_within zero black weights h = (omega (arith, ints), omega (arith, ints))
    column_value_within (suc l) black weights h =
        let room : ℕ = free + sum l n in
        let best = greatest_is (λ k. γ l *ℤ pos k +ℤ column_value γ n free l (black - k)) (fewest room black) (spread (n l) room black) in
        let k : ℕ = fewest room black + best.at in
        let few : k ≤ black = omega (arith, best.within) in
        let weight = weights l (omega arith) in
        let here = times_within (γ l) b k weight.0 weight.1 in
        let rest = column_value_within l (black - k) (λ i p. weights i (omega arith)) (omega arith) in
        let size : b * k ≤ b * most = mul-le b k b most (omega arith) (omega arith) in
        let all : suc l * (b * most) ≡ l * (b * most) + b * most = omega arith in
        subst (Within (suc l * (b * most))) best.reached (omega (arith, ints, here.0, rest.0), omega (arith, ints, here.1, rest.1))

-- equal weights and counts have equal values
module _ (γ δ : ℕ → ℤ) (m n : ℕ → ℕ) (free : ℕ) where
  pub column_value_same : (l : ℕ) → ((i : ℕ) → i < l → γ i ≡ δ i) → ((i : ℕ) → i < l → m i ≡ n i) → (black : ℕ) → column_value γ m free l black ≡ column_value δ n free l black
  unfolding column_value
  column_value_same zero e f black = refl
  column_value_same (suc l) e f black =
      let rooms : sum l m ≡ sum l n = sum_same l m n (λ i h. f i (omega arith)) in
      let weight : γ l ≡ δ l = e l (omega arith) in
      let count : m l ≡ n l = f l (omega arith) in
      let rest = column_value_same l (λ i h. e i (omega arith)) (λ i h. f i (omega arith)) in
      λ i. greatest (λ k. weight i *ℤ pos k +ℤ rest (black - k) i) (fewest (free + rooms i) black) (spread (count i) (free + rooms i) black)
