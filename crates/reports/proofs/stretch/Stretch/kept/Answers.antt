use Rattle.std.proofs.Common.{ℕ, Bool, ◌+◌, ◌-◌, ◌∙◌, rules}
use Rattle.std.specs.List.{range_with_len}
use Rattle.std.proofs.lemmas.Iterator.{YieldsList-from_range, YieldsList-from_map}
use Rattle.std.proofs.lemmas.Iterator.Consumers.{sum_by_from_yields_List, fits_by_from_yields_list}
use Rattle.reports.proofs.Counting.{one_if_kept, is_kept_by_cases, sum_of_kept, few_are_kept}
use Rattle.reports.proofs.stretch.Stretch.kept.Goals as goal

pub sum-requires-clause-fits : goal.sum-requires-clause-fits
sum-requires-clause-fits g c =
    let kept : ℕ → Bool = λ t. g.P.Policy.kept c.args.policy.now t c.args.present.value in
    let first = c.args.self.first.value in
    let last = c.args.self.last.value in
    fits_by_from_yields_list (one_if_kept kept) (range_with_len first (last + 1 - first)) c.map.result 4294967296
    (YieldsList-from_map _ (one_if_kept kept) (YieldsList-from_range first (last + 1) _ (cc) (search rules)) c.map.ensures.closure (λ x r q k. (search rules, search (rules, is_kept_by_cases))))
    (few_are_kept kept first last c.args.self.ordered c.args.self.last.within)

pub returns : goal.returns
returns g c =
    let kept : ℕ → Bool = λ t. g.P.Policy.kept c.args.policy.now t c.args.present.value in
    let first = c.args.self.first.value in
    let last = c.args.self.last.value in
    sum_by_from_yields_List (one_if_kept kept) (range_with_len first (last + 1 - first)) c.map.result _ c.sum.ensures.ran
    (YieldsList-from_map _ (one_if_kept kept) (YieldsList-from_range first (last + 1) _ (cc) (search rules)) c.map.ensures.closure (λ x r q k. (search rules, search (rules, is_kept_by_cases))))
    ∙ sum_of_kept kept first last c.args.self.ordered c.args.self.last.within
