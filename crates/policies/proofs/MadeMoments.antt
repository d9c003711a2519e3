-- What `Moment::try_from(n).ok()` gives where `n` is the number of a moment.
use Rattle.std.proofs.Common.{◌≡◌, ℕ, ◌≤◌, leb, is_some, Some, Ok, Err, Option, Result, arith}
use Rattle.std.proofs.lemmas.Bool.Decides.{nat_tests}
use Rattle.std.specs.Option.{option_map}
use Rattle.std.specs.Result.{result_ok}
use Rattle.values.specs.Answers.{answer}
use Rattle.values.specs.Moments.{moment_at}
use Rattle.values.specs.declared.moment.Moment.{Moment}
use Rattle.values.specs.declared.refusal.Refusal.{Refusal}

-- It gives that moment: no number up to the last moment is refused.
pub moment_is_made : (n : ℕ) (r : Result Moment Refusal) → answer (λ t. t.value) r ≡ moment_at n → n ≤ 1048575 → option_map (λ t. t.value) (result_ok r) ≡ Some n
moment_is_made n (Ok t) e h = grind (arith, nat_tests)
moment_is_made n (Err x) e h = absurd (grind (arith, nat_tests))

-- So it is an answer of `first_kept` at the present moment `m` that holds `n`, with both of its clauses.
pub found_is_made : (n from m : ℕ) (r : Result Moment Refusal) (o : Option Moment)
    → o ≡ result_ok r → answer (λ t. t.value) r ≡ moment_at n → n ≤ m → from ≤ m → m ≤ 1048575
    → (option_map (λ t. t.value) o ≡ Some n) × (is_some o ≡ leb from m)
found_is_made n from m r o part e within to limit =
    let made : option_map (λ t. t.value) o ≡ Some n = rw part (moment_is_made n r e (omega arith)) in
    (made, grind (arith, nat_tests))
