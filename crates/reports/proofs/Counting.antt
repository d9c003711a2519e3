-- Counting kept moments, and the rows of a table of ages.
use Rattle.std.proofs.Common.{◌≡◌, ℕ, zero, suc, ◌+◌, ◌-◌, ◌^◌, ◌<◌, ◌≤◌, Bool, false, ltb, leb, ◌&&◌, None, Ok, Err, Result, length, sym, refl, arith, pow_mono, ap₂, cond, ◌∙◌}
use Rattle.std.proofs.lemmas.Bool.{cond-true, lt-ltb, le-leb}
use Rattle.std.proofs.lemmas.Bool.Decides.{nat_tests}
use Rattle.std.proofs.lemmas.List.FromFn.{length-range_with_len}
use Rattle.std.proofs.lemmas.List.Sums.{count_by-le-length, sum_by-cons}
use Rattle.std.specs.Prelude.{count_by, sum_by, MatchResult}
use Rattle.std.specs.List.{range_with_len}
use Rattle.values.specs.Answers.{answer}
use Rattle.values.specs.Moments.{moment_at}
use Rattle.values.specs.declared.moment.Moment.{Moment}
use Rattle.values.specs.declared.refusal.Refusal.{Refusal}
use Rattle.reports.specs.Counts.{count_kept}
use Rattle.reports.specs.Stretches.{ages_of}

-- Whether a number is that of a kept moment, as a test of numbers finds out.
abbrev pub is_kept : (kept : ℕ → Bool) (n : ℕ) → Bool
is_kept kept n = leb n 1048575 && kept n

-- What the test answers, where the number is made into a moment and the moment is asked about.
pub is_kept_by_cases : (kept : ℕ → Bool) (n : ℕ) (b : Bool) (r : Result Moment Refusal) → answer (λ m. m.value) r ≡ moment_at n
    → MatchResult r (λ t. b ≡ kept t.value) (λ _. b ≡ false) → b ≡ is_kept kept n
is_kept_by_cases kept n b (Ok t) e h = grind (arith, nat_tests)
is_kept_by_cases kept n b (Err x) e h = grind (arith, nat_tests)

-- Over numbers of moments the test is that the moment is kept.
count_by_is_kept : (kept : ℕ → Bool) (n t : ℕ) → t + n ≤ 1048576 → count_by (is_kept kept) (range_with_len t n) ≡ count_by kept (range_with_len t n)
count_by_is_kept kept zero t h = refl
count_by_is_kept kept (suc n) t h =
    let low : is_kept kept t ≡ kept t = rw (le-leb t 1048575 (omega arith)) in
    let rest = range_with_len (t + 1) n in
    sum_by-cons (λ x. cond (is_kept kept x) 1 0) t rest
    ∙ ap₂ (λ (b : Bool) (k : ℕ). cond b 1 0 + k) low (count_by_is_kept kept n (t + 1) (omega arith))
    ∙ sym (sum_by-cons (λ x. cond (kept x) 1 0) t rest)

-- One for a number that passes the test, else zero.
abbrev pub one_if_kept : (kept : ℕ → Bool) (n : ℕ) → ℕ
one_if_kept kept n = cond (is_kept kept n) 1 0

-- So their sum counts the kept moments of a stretch.
pub sum_of_kept : (kept : ℕ → Bool) (first last : ℕ) → first ≤ last → last ≤ 1048575 → sum_by (one_if_kept kept) (range_with_len first (last + 1 - first)) ≡ count_kept kept first last
unfolding count_kept
sum_of_kept kept first last ordered h = count_by_is_kept kept (last + 1 - first) first (omega arith)

-- And it fits into 32 bits.
pub few_are_kept : (kept : ℕ → Bool) (first last : ℕ) → first ≤ last → last ≤ 1048575 → sum_by (one_if_kept kept) (range_with_len first (last + 1 - first)) < 4294967296
few_are_kept kept first last ordered h =
    let numbers = range_with_len first (last + 1 - first) in
    let few : count_by (is_kept kept) numbers ≤ length numbers = count_by-le-length (is_kept kept) numbers in
    let many : length numbers ≡ last + 1 - first = length-range_with_len first (last + 1 - first) in
    omega arith

-- No moment is so old that it would stand in a row above the twentieth.
pub no_row_above : (row m : ℕ) → 20 < row → m ≤ 1048575 → None ≡ ages_of row m
no_row_above zero m h l = absurd (omega arith)
no_row_above (suc row) m h l =
    let old : 2 ^ 20 ≤ 2 ^ row = pow_mono {i = 20} {j = row} (omega arith) in
    sym (cond-true (ltb m (2 ^ row)) None _ (lt-ltb m (2 ^ row) (omega arith)))
