-- The laws of `count_trailing_zeros k t`: the largest power of two, up to 2 ^ k, that divides `t` has it as its exponent.
use Rattle.std.proofs.Common.{◌≡◌, ℕ, zero, suc, ◌+◌, ◌*◌, ◌/◌, ◌%◌, ◌^◌, ◌<◌, ◌≤◌, sym, refl, ap, ◌∙◌, inl, inr, suc-le-suc, zero-le, le_of_suc-le-suc, mod-eq_of_lt, add-one, arith, pow_mono}
use native.Mathlib.Nat.{mod-one}
use lib.Count.{count_trailing_zeros, under}
use lib.Pow.{mod-pow-add}
use Rattle.std.proofs.lemmas.Bool.{cases_lt}

-- The remainder by 2 ^ suc z, from the lowest digit and the remainder of the half by 2 ^ z.
half_mod : (t z : ℕ) → t % 2 ^ suc z ≡ (t / 2 % 2 ^ z) * 2 + t % 2
half_mod t z = ap (λ (n : ℕ). t % 2 ^ n) (sym (add-one z)) ∙ mod-pow-add t z 1

-- 2 to the number of trailing zeros divides the number.
pub zeros_divide : (k t : ℕ) → t % 2 ^ count_trailing_zeros k t ≡ 0
unfolding count_trailing_zeros
zeros_divide zero t = mod-one t
zeros_divide (suc k) t = at (t % 2) refl (zeros_divide k (t / 2))
  where
    at : (d : ℕ) → t % 2 ≡ d → t / 2 % 2 ^ count_trailing_zeros k (t / 2) ≡ 0 → t % 2 ^ under d (count_trailing_zeros k (t / 2)) ≡ 0
    at zero e h = omega (arith, half_mod t (count_trailing_zeros k (t / 2)))
    at (suc d) e h = mod-one t

-- A power of two that divides the number has at most the number of trailing zeros as its exponent.
pub zeros_are_most : (k z t : ℕ) → z ≤ k → t % 2 ^ z ≡ 0 → z ≤ count_trailing_zeros k t
unfolding count_trailing_zeros
zeros_are_most k zero t h e = zero-le
zeros_are_most zero (suc z) t h e = h
zeros_are_most (suc k) (suc z) t h e =
    let low : t % 2 ≡ 0 = omega (arith, half_mod t z) in
    let rest : t / 2 % 2 ^ z ≡ 0 = omega (arith, half_mod t z) in
    rw low (suc-le-suc (zeros_are_most k z (t / 2) (le_of_suc-le-suc h) rest))

-- A number of n digits that is not 0 has fewer than n trailing zeros.
pub zeros_are_fewer : (k n t : ℕ) → 0 < t → t < 2 ^ n → count_trailing_zeros k t < n
zeros_are_fewer k n t pos h = elim (cases_lt (count_trailing_zeros k t) n) [
  | inl l ↦ l
  | inr g ↦
      let p : 2 ^ n ≤ 2 ^ count_trailing_zeros k t = pow_mono g in
      let small : t < 2 ^ count_trailing_zeros k t = omega arith in
      absurd (omega (arith, mod-eq_of_lt small, zeros_divide k t))
]
