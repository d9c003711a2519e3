use Rattle.std.proofs.Common.{◌≡◌, ℕ, ◌-◌, ◌≤◌, max, Some, sym, ◌∙◌, arith, rules}
use Rattle.std.proofs.lemmas.Bool.Decides.{nat_tests}
use Rattle.std.proofs.lemmas.Map.Keys.{le_from_not_gt}
use Rattle.policies.specs.FirstKept.{first_kept}
use Rattle.policies.specs.Kept.{kept_by_window}
use Rattle.policies.proofs.LeastKept.{least_is_first, none_above}
use Rattle.policies.proofs.MadeMoments.{moment_is_made}
use Rattle.policies.proofs.window.WindowPolicy.first_kept.Goals as goal

pub returns-then-gt-clause-least : goal.returns-then-gt-clause-least
returns-then-gt-clause-least c = sym (none_above _ _ _ (search rules))

-- The first kept moment is `from`, or the oldest in the window where that is later.
window_begins : (length from m n : ℕ) → n ≡ max from (m - length) → from ≤ m → first_kept (λ t. kept_by_window length t m) from m ≡ Some n
window_begins length from m n e to =
    least_is_first (λ t. kept_by_window length t m) from m n (omega arith) (omega arith) (grind (arith, nat_tests)) (λ j above below. grind (arith, nat_tests))

pub returns-clause-least : goal.returns-clause-least
returns-clause-least c =
    let to : c.args.from.value ≤ c.args.present.value = le_from_not_gt _ _ (search rules) in
    let first : c.max.result ≡ max c.args.from.value (c.args.present.value - c.args.self.now.length) = omega arith in
    let made : c.max.result ≤ 1048575 = omega (arith, c.args.present.within) in
    rw c.ok.ensures.value (moment_is_made c.max.result _ c.try_from.ensures made)
    ∙ sym (window_begins c.args.self.now.length _ _ _ first to)
