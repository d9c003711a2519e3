-- Calls with tests that may turn them down.
use Rattle.std.proofs.Common.{◌≡◌, ℕ, Bool, true, false, not, List, [], ◌∷◌, Ok, Err, Result, sym, refl, ap, ap₂, inl, inr, arith}
use Rattle.std.proofs.lemmas.Bool.{cases_Bool}
use Rattle.values.specs.Answers.{unless_refused}

pub accepted_is_not_refused : {A B : Type 0} {x : A} {y : B} → ◌≡◌ {A = Result A B} (Ok x) (Err y) → ⊥
accepted_is_not_refused e = let z : ◌≡◌ {A = ℕ} 0 1 = cc in omega arith

pub accepted : {B : Type 0} (passes : Bool) (n : ℕ) (x y : B) → passes ≡ true → x ≡ y → Ok x ≡ unless_refused ((not passes, n) ∷ []) y
accepted passes n x y e f = ap₂ (λ b z. unless_refused ((not b, n) ∷ []) z) (sym e) f

pub refused : {B : Type 0} (passes : Bool) (n : ℕ) (y : B) → passes ≡ false → Err n ≡ unless_refused ((not passes, n) ∷ []) y
refused passes n y e = ap (λ b. unless_refused ((not b, n) ∷ []) y) (sym e)

-- Tests that accept one answer accept any.
pub also_accepted : {A B : Type 0} (tests : List (Bool × ℕ)) (x z : A) (y : B) → Ok z ≡ unless_refused tests x → Ok y ≡ unless_refused tests y
also_accepted [] x z y h = refl
also_accepted {A = A} {B = B} (t ∷ tests) x z y h =
    elim (cases_Bool t.0) [
      | inl p ↦ absurd (accepted_is_not_refused {A = A} {B = ℕ} (rw p at h))
      | inr p ↦ rw p (also_accepted tests x z y (rw p at h))
    ]

pub also_refused : {A B : Type 0} (tests : List (Bool × ℕ)) (n : ℕ) (x : A) (y : B) → Err n ≡ unless_refused tests x → Err n ≡ unless_refused tests y
also_refused [] n x y h = absurd (accepted_is_not_refused (sym h))
also_refused {A = A} {B = B} (t ∷ tests) n x y h =
    elim (cases_Bool t.0) [
      | inl p ↦
          let e : ◌≡◌ {A = Result A ℕ} (Err n) (Err t.1) = rw p at h in
          let m : n ≡ t.1 = cc in
          rw p (ap (λ (k : ℕ). Err k) m)
      | inr p ↦ rw p (also_refused tests n x y (rw p at h))
    ]
