-- The search of `Halving` for its first kept moment: each power of two has one candidate, and the least candidate is that moment.
use Rattle.std.proofs.Common.{◌≡◌, ℕ, ◌+◌, ◌-◌, ◌*◌, ◌/◌, ◌%◌, ◌^◌, ◌<◌, ◌≤◌, min, true, zero, suc, Some, ap, add-zero, ◌∙◌, inl, inr, mul-le-mul_right, mod-lt, add-mul, mul-le-mul_left, div-add-mod', arith, pow_pos, pow_mono, shl_exact}
use native.Mathlib.Nat.{add-mod-mod, mul-mod_left}
use lib.Count.{count_trailing_zeros}
use Rattle.std.proofs.lemmas.Bool.{cases_Bool, cases_lt}
use Rattle.std.proofs.lemmas.Bool.Decides.{nat_tests}
use Rattle.std.specs.Prelude.{fold, map}
use Rattle.std.specs.Int.{next_multiple_of}
use Rattle.std.specs.List.{range_with_len}
use Rattle.policies.specs.FirstKept.{first_kept}
use Rattle.policies.specs.Halving.{candidate, limit_of}
use Rattle.policies.specs.Kept.{kept_by_halving}
use Rattle.policies.proofs.LeastKept.{least_is_first}
use Rattle.policies.proofs.TrailingZeros.{zeros_are_fewer, zeros_are_most, zeros_divide}

-- A number rounded up to a multiple of `step` is such a multiple.
rounded_is_multiple : (n step : ℕ) → 0 < step → next_multiple_of n step % step ≡ 0
rounded_is_multiple n step pos =
    let next : n + (step - n % step) ≡ (n / step + 1) * step = omega (arith, div-add-mod' n step, mod-lt n pos, add-mul (n / step) 1 step) in
    add-mod-mod n (step - n % step) step ∙ ap (λ (x : ℕ). x % step) next ∙ mul-mod_left (n / step + 1) step

-- Of the multiples of `step` from `n` on, the number rounded up is the least.
rounded_is_least : (n step j : ℕ) → 0 < step → n ≤ j → j % step ≡ 0 → next_multiple_of n step ≤ j
rounded_is_least n step j pos from multiple =
    let near : next_multiple_of n step < n + step = omega (arith, mod-lt (step - n % step) pos) in
    let whole : next_multiple_of n step / step * step ≡ next_multiple_of n step =
    omega (arith, div-add-mod' (next_multiple_of n step) step, rounded_is_multiple n step pos) in
    let whole_j : j / step * step ≡ j = omega (arith, div-add-mod' j step) in
    elim (cases_lt (j / step) (next_multiple_of n step / step)) [
      | inl below ↦
          let apart : (j / step + 1) * step ≤ next_multiple_of n step / step * step = mul-le-mul_right step (omega arith) in
          absurd (omega (arith, add-mul (j / step) 1 step))
      | inr above ↦
          let order : next_multiple_of n step / step * step ≤ j / step * step = mul-le-mul_right step above in
          omega arith
    ]

-- The reach of a moment, which has fewer than 20 trailing zeros, fits 32 bits: the shift loses no bit.
pub reach_is_whole : (reach zeros : ℕ) → reach ≤ 1024 → zeros < 20 → (reach * 2 ^ zeros) % 2 ^ 32 ≡ reach * 2 ^ zeros
reach_is_whole reach zeros h l = shl_exact 11 zeros 32 (omega arith) (omega arith)

-- So the limit of a moment other than 0 loses no bit.
pub limit_is_whole : (reach t : ℕ) → reach ≤ 1024 → t ≤ 1048575 → 0 < t → Some ((reach * 2 ^ count_trailing_zeros 32 t) % 2 ^ 32) ≡ limit_of reach t
limit_is_whole reach t h limit pos =
    rw (reach_is_whole reach (count_trailing_zeros 32 t) h (zeros_are_fewer 32 20 t pos (omega arith))) (grind (arith, nat_tests))

-- A candidate that is not above the present moment is kept.
candidate_is_kept : (reach zeros from m : ℕ) → zeros ≤ 32 → candidate reach zeros from m ≤ m → kept_by_halving reach (candidate reach zeros from m) m ≡ true
candidate_is_kept reach zeros from m few to =
    let first = candidate reach zeros from m in
    let more : zeros ≤ count_trailing_zeros 32 first =
    zeros_are_most 32 zeros first few (rounded_is_multiple _ (2 ^ zeros) (pow_pos zeros)) in
    let longer : reach * 2 ^ zeros ≤ reach * 2 ^ count_trailing_zeros 32 first = mul-le-mul_left reach (pow_mono more) in
    let young : m - first ≤ reach * 2 ^ zeros = omega arith in
    grind (arith, nat_tests)

-- A kept moment other than 0 is not below the candidate of the largest power of two that divides it.
candidate_is_least : (reach from m j : ℕ) → 0 < j → from ≤ j → kept_by_halving reach j m ≡ true → candidate reach (count_trailing_zeros 32 j) from m ≤ j
candidate_is_least reach from m j pos above e =
    let young : m - j ≤ reach * 2 ^ count_trailing_zeros 32 j = grind (arith, nat_tests) in
    rounded_is_least _ (2 ^ count_trailing_zeros 32 j) j (pow_pos (count_trailing_zeros 32 j)) (omega arith) (zeros_divide 32 j)

-- After the candidates of fewer than `zeros` zeros: `first` is a kept moment from `from` on, and no kept moment before it
-- has fewer than `zeros` trailing zeros.
record LeastSoFar (reach zeros from m first : ℕ) : Type 0 where
  above : from ≤ first
  within : first ≤ m
  kept : kept_by_halving reach first m ≡ true
  least : (j : ℕ) → from ≤ j → count_trailing_zeros 32 j < zeros → kept_by_halving reach j m ≡ true → first ≤ j

-- The candidate of the next power of two is taken in.
so_far_more : (reach zeros from m first : ℕ) → zeros ≤ 32 → 0 < from
    → LeastSoFar reach zeros from m first → LeastSoFar reach (zeros + 1) from m (min first (candidate reach zeros from m))
so_far_more reach zeros from m first few pos s =
    let next = candidate reach zeros from m in record {
      above = omega (arith, s.above);
      within = omega (arith, s.within);
      kept = elim (cases_lt next first) [
        | inl below ↦ let e : min first next ≡ next = omega arith in rw e (candidate_is_kept reach zeros from m few (omega (arith, s.within)))
        | inr above ↦ let e : min first next ≡ first = omega arith in rw e s.kept
      ];
      least = λ j a z e. elim (cases_lt (count_trailing_zeros 32 j) zeros) [
        | inl fewer ↦ omega (arith, s.least j a fewer e)
        | inr as_many ↦
            let same : count_trailing_zeros 32 j ≡ zeros = omega arith in
            omega (arith, rw same at (candidate_is_least reach from m j (omega arith) a e))
      ];
    }

-- The candidates of `n` further powers of two are taken in, one by one.
so_far_fold : (reach n zeros from m first : ℕ) → zeros + n ≤ 33 → 0 < from → LeastSoFar reach zeros from m first
    → LeastSoFar reach (zeros + n) from m (fold min first (map (λ z. candidate reach z from m) (range_with_len zeros n)))
so_far_fold reach zero have from m first few pos s = rw add-zero s
so_far_fold reach (suc n) zeros from m first few pos s =
    let e : zeros + suc n ≡ (zeros + 1) + n = omega arith in
    rw e (so_far_fold reach n (zeros + 1) from m _ (omega arith) pos (so_far_more reach zeros from m first (omega arith) pos s))

-- After the candidates of all powers of two below 2 ^ n, where every moment up to the present is below 2 ^ n too.
so_far_all : (reach n from m first : ℕ) → 0 < from → m < 2 ^ n → LeastSoFar reach n from m first → first_kept (λ t. kept_by_halving reach t m) from m ≡ Some first
so_far_all reach n from m first pos limit s =
    least_is_first (λ t. kept_by_halving reach t m) from m first s.above s.within s.kept
    (λ j a below. elim (cases_Bool (kept_by_halving reach j m)) [
      | inl e ↦ absurd (omega (arith, s.least j a (zeros_are_fewer 32 n j (omega arith) (omega (arith, s.within))) e))
      | inr e ↦ e
    ])

-- The least of the candidates of all powers of two up to the last moment, and of the present moment.
abbrev pub least_candidate : (reach from m : ℕ) → ℕ
least_candidate reach from m = fold min m (map (λ z. candidate reach z from m) (range_with_len 0 20))

-- It is the first kept moment.
pub least_candidate_is_first : (reach from m : ℕ) → 0 < from → from ≤ m → m ≤ 1048575
    → (least_candidate reach from m ≤ m) × (first_kept (λ t. kept_by_halving reach t m) from m ≡ Some (least_candidate reach from m))
least_candidate_is_first reach from m pos to limit =
    let all : LeastSoFar reach 20 from m (least_candidate reach from m) =
    so_far_fold reach 20 0 from m m (omega arith) pos
    record { above = to; within = omega arith; kept = grind (arith, nat_tests); least = λ j a z e. absurd (omega arith) } in
    (all.within, so_far_all reach 20 from m _ pos (omega arith) all)
