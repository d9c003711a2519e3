-- What the law from one present moment to the next gives for all later ones.
use Rattle.std.proofs.Common.{◌≡◌, ℕ, zero, suc, ◌+◌, ◌-◌, ◌≤◌, Bool, true, subst, inl, inr, arith}
use Rattle.std.proofs.lemmas.Bool.{both_ways, cases_Bool}
use Rattle.policies.specs.Kept.{GivenUpForGood}

-- A moment that is kept `later` moments on was kept before.
kept_before : (kept : (t m : ℕ) → Bool) → ((t m : ℕ) → t ≤ m → kept t (suc m) ≡ true → kept t m ≡ true)
    → (later t m n : ℕ) → n ≡ later + m → t ≤ m → kept t n ≡ true → kept t m ≡ true
kept_before kept lasting zero t m n e h k = let s : n ≡ m = omega arith in subst (λ (x : ℕ). kept t x ≡ true) s k
kept_before kept lasting (suc later) t m n e h k =
    let s : n ≡ suc (later + m) = omega arith in
    let before : later + m ≡ later + m = omega arith in
    kept_before kept lasting later t m (later + m) before h (lasting t (later + m) (omega arith) (subst (λ (x : ℕ). kept t x ≡ true) s k))

pub given_up_for_good : (kept : (t m : ℕ) → Bool) → ((t m : ℕ) → t ≤ m → kept t (suc m) ≡ true → kept t m ≡ true) → GivenUpForGood kept
given_up_for_good kept lasting t m n h later gone = elim (cases_Bool (kept t n)) [
  | inl k ↦ absurd (both_ways (kept t m) gone (kept_before kept lasting (n - m) t m n (omega arith) h k))
  | inr g ↦ g
]
