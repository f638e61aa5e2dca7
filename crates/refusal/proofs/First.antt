-- Laws of the first refusal. Assumes nothing.
use Rattle.std.proofs.Common.{◌≡◌, ℕ, zero, suc, ◌+◌, ◌-◌, ◌<◌, ◌≤◌, Bool, true, false, cond, ◌⊎◌, List, [], ◌∷◌, is_ok, Some, None, Ok, Err, Decides, Option, Result, get_or, sym, refl, ap, ◌∙◌, subst, ⊎_elim, arith}
use Rattle.std.proofs.lemmas.Bool.{cases_Bool, cond-true, cond-false, false≢true}
use Rattle.std.proofs.lemmas.List.FromFn.{length-range_with_len, get_or-range_with_len}
use Rattle.std.proofs.lemmas.List.Sums.{AllPass-from_list_all, list_all-from_AllPass}
use Rattle.std.specs.List.{range_with_len}
use Rattle.refusal.specs.declared.Refusal.{Refusal}
use Rattle.refusal.specs.First.{Verdict, ensure, refuse, each, ensure_each, first_refusal, first_failing, IsFirst, Exactly, after}

-- a loop over n things has passed those before the i-th, so what is left decides
abbrev pub Sofar : ℕ → (ℕ → Bool) → ℕ → Type 0
Sofar n test i = first_failing test 0 n ≡ first_failing test i (n - i)

step : (test : ℕ → Bool) (i n : ℕ) → i < n → first_failing test i (n - i) ≡ cond (test i) (first_failing test (i + 1) (n - (i + 1))) (Some i)
unfolding first_failing
step test i n h = let s : n - i ≡ suc (n - (i + 1)) = omega arith in ap (first_failing test i) s

pub sofar_more : (n : ℕ) (test : ℕ → Bool) (i : ℕ) → Sofar n test i → i < n → true ≡ test i → Sofar n test (i + 1)
sofar_more n test i s h t = s ∙ step test i n h ∙ cond-true (test i) _ _ (sym t)

pub sofar_stop : (n : ℕ) (test : ℕ → Bool) (i : ℕ) → Sofar n test i → i < n → false ≡ test i → first_failing test 0 n ≡ Some i
sofar_stop n test i s h t = s ∙ step test i n h ∙ cond-false (test i) _ _ (sym t)

pub sofar_all : (n : ℕ) (test : ℕ → Bool) (i : ℕ) → Sofar n test i → n ≤ i → first_failing test 0 n ≡ None
unfolding first_failing
sofar_all n test i s h = let z : n - i ≡ 0 = omega arith in s ∙ ap (first_failing test i) z

-- among n things from i on
abbrev From : (ℕ → Bool) → ℕ → ℕ → Option ℕ → Type 0
From test i n None = (j : ℕ) → i ≤ j → j < i + n → test j ≡ true
From test i n (Some k) = (i ≤ k) × (k < i + n) × (test k ≡ false) × ((j : ℕ) → i ≤ j → j < k → test j ≡ true)

-- what holds at i and from i + 1 on holds from i on
at_or_past : (P : ℕ → Type 0) (i j : ℕ) → P i → (i + 1 ≤ j → P j) → i ≤ j → P j
at_or_past P i j here past low = ⊎_elim (λ q. subst P q here) past (split i j low)
  where
    split : (i j : ℕ) → i ≤ j → (i ≡ j) ⊎ (i + 1 ≤ j)
    split i j l = grind arith

from_more : (test : ℕ → Bool) (i n : ℕ) (o : Option ℕ) → test i ≡ true → From test (i + 1) n o → From test i (suc n) o
from_more test i n None e h = λ j low high. at_or_past (λ x. test x ≡ true) i j e (λ past. h j past (omega arith)) low
from_more test i n (Some k) e h = (
  omega arith,
  omega arith,
  h.2,
  λ j low high. at_or_past (λ x. test x ≡ true) i j e (λ past. h.3 j past high) low,
)

from_is : (test : ℕ → Bool) (i n : ℕ) → From test i n (first_failing test i n)
unfolding first_failing
from_is test i zero = λ j low high. absurd (omega arith)
from_is test i (suc n) =
    ⊎_elim
    (λ e. subst (From test i (suc n)) (sym (cond-true (test i) _ _ e)) (from_more test i n (first_failing test (i + 1) n) e (from_is test (i + 1) n)))
    (λ e. subst (From test i (suc n)) (sym (cond-false (test i) _ _ e)) (omega arith, omega arith, e, λ j low high. absurd (omega arith)))
    (cases_Bool (test i))

is_from : (test : ℕ → Bool) (n : ℕ) (o : Option ℕ) → From test 0 n o → IsFirst test n o
is_from test n None h = λ i low. h i (omega arith) (omega arith)
is_from test n (Some k) h = (omega arith, h.2, λ i low. h.3 i (omega arith) low)

-- first_failing is what its name says
pub first_is : (test : ℕ → Bool) (n : ℕ) → IsFirst test n (first_failing test 0 n)
first_is test n = is_from test n (first_failing test 0 n) (from_is test 0 n)

module _ (n : ℕ) (test : ℕ → Bool) where
  pub all_from_each : each n test ≡ true → (i : ℕ) → i < n → test i ≡ true
  all_from_each h i low =
      let at : get_or (range_with_len 0 n) i 0 ≡ i = omega (arith, get_or-range_with_len 0 n i 0 low) in
      subst (λ q. test q ≡ true) at
      (AllPass-from_list_all test (range_with_len 0 n) h i 0 (omega (arith, length-range_with_len 0 n)))

  pub each_from_all : ((i : ℕ) → i < n → test i ≡ true) → each n test ≡ true
  each_from_all all =
      list_all-from_AllPass test (range_with_len 0 n) (λ i d low.
      let below : i < n = omega (arith, length-range_with_len 0 n) in
      let at : i ≡ get_or (range_with_len 0 n) i d = omega (arith, get_or-range_with_len 0 n i d below) in
      subst (λ q. test q ≡ true) at (all i below))

pub decides_each : (n : ℕ) (test : ℕ → Bool) (P : ℕ → Type 0) → ((i : ℕ) → i < n → Decides (test i) (P i)) → Decides (each n test) ((i : ℕ) → i < n → P i)
decides_each n test P f = (
  λ e i h. (f i h).0 (all_from_each n test e i h),
  λ all. each_from_all n test (λ i h. (f i h).1 (all i h)),
)

-- one check, a check of each of n things, and a list of checks: what each asks
pub exactly_ensure : {P : Type 0} (t : Bool) (e : Refusal) → Decides t P → Exactly (ensure t e) P
exactly_ensure true e d = (λ _. d.0 refl, λ _. refl)
exactly_ensure false e d = (λ h. let z : ◌≡◌ {A = ℕ} 0 1 = cc in absurd (omega arith), λ p. absurd (false≢true (d.1 p)))

pub exactly_each : (n : ℕ) (test : ℕ → Bool) (e : ℕ → Refusal) (P : ℕ → Type 0) → ((i : ℕ) → i < n → Decides (test i) (P i)) → Exactly (ensure_each n test e) ((i : ℕ) → i < n → P i)
exactly_each n test e P f = by (first_failing test 0 n) (first_is test n)
  where
    by : (o : Option ℕ) → IsFirst test n o → Exactly (refuse o e) ((i : ℕ) → i < n → P i)
    by None g = (λ _ i h. (f i h).0 (g i h), λ _. refl)
    by (Some k) g = (
      λ h. let z : ◌≡◌ {A = ℕ} 0 1 = cc in absurd (omega arith),
      λ all. absurd (false≢true (sym g.1 ∙ (f k g.0).1 (all k g.0))),
    )

pub exactly_none : Exactly (first_refusal []) (Unit {0})
exactly_none = (λ _. tt, λ _. refl)

pub exactly_more : {P Q : Type 0} (v : Verdict) (rest : List Verdict) → Exactly v P → Exactly (first_refusal rest) Q → Exactly (first_refusal (v ∷ rest)) (P × Q)
exactly_more (Ok _) rest a b = (λ h. (a.0 refl, b.0 h), λ pq. b.1 pq.1)
exactly_more (Err e) rest a b = (
  λ h. let z : ◌≡◌ {A = ℕ} 0 1 = cc in absurd (omega arith),
  λ pq. let h = a.1 pq.0 in let z : ◌≡◌ {A = ℕ} 0 1 = cc in absurd (omega arith),
)

-- where what is judged is known from an earlier check
pub exactly_given : {P Q : Type 0} (v : Verdict) (rest : List Verdict) → Exactly v P → (P → Exactly (first_refusal rest) Q) → Exactly (first_refusal (v ∷ rest)) (P × Q)
exactly_given (Ok _) rest a b = (λ h. (a.0 refl, (b (a.0 refl)).0 h), λ pq. (b pq.0).1 pq.1)
exactly_given (Err e) rest a b = (
  λ h. let z : ◌≡◌ {A = ℕ} 0 1 = cc in absurd (omega arith),
  λ pq. let h = a.1 pq.0 in let z : ◌≡◌ {A = ℕ} 0 1 = cc in absurd (omega arith),
)

pub exactly_like : {P Q : Type 0} (v : Verdict) → (P → Q) → (Q → P) → Exactly v P → Exactly v Q
exactly_like v f g e = (λ h. f (e.0 h), λ q. e.1 (g q))

-- a check that refuses nothing yields nothing
pub ok_from_is_ok : (v : Verdict) → is_ok v ≡ true → v ≡ Ok tt
ok_from_is_ok (Ok _) h = refl
ok_from_is_ok (Err e) h = absurd (false≢true h)

-- a check whose value is checked next: where all of it refuses nothing, and what follows where its parts do
pub after_elim : {X Y P : Type 0} (r : Result X Refusal) (next : X → Result Y Refusal) (y : Y) → after r next ≡ Ok y → ((x : X) → r ≡ Ok x → next x ≡ Ok y → P) → P
after_elim (Ok x) next y h f = f x refl h
after_elim (Err e) next y h f = let z : ◌≡◌ {A = ℕ} 0 1 = cc in absurd (omega arith)

pub after_ensure : {Y : Type 0} (t : Bool) (e : Refusal) (next : Unit {0} → Result Y Refusal) (y : Y) → after (ensure t e) next ≡ Ok y → (t ≡ true) × (next tt ≡ Ok y)
after_ensure true e next y h = (refl, h)
after_ensure false e next y h = let z : ◌≡◌ {A = ℕ} 0 1 = cc in absurd (omega arith)

pub after_ok : {X Y : Type 0} {r : Result X Refusal} (next : X → Result Y Refusal) (x : X) → r ≡ Ok x → after r next ≡ next x
after_ok next x e = ap (λ r. after r next) e

pub after_met : {Y : Type 0} {t : Bool} (e : Refusal) (next : Unit {0} → Result Y Refusal) → t ≡ true → after (ensure t e) next ≡ next tt
after_met e next h = ap (λ t. after (ensure t e) next) h
