use Rattle.std.proofs.Common.{◌≡◌, ◌<◌, ◌≤◌, min, sym, ap, ◌∙◌, arith, rules}
use Rattle.std.proofs.lemmas.Bool.Decides.{nat_tests}
use Rattle.std.proofs.lemmas.Iterator.{YieldsList-from_range, YieldsList-from_map}
use Rattle.std.proofs.lemmas.Iterator.Consumers.{fold_from_yields_List}
use Rattle.std.proofs.lemmas.Map.Keys.{le_from_not_gt}
use Rattle.std.specs.Prelude.{fold, map}
use Rattle.std.specs.List.{range_with_len}
use Rattle.policies.specs.Halving.{candidate}
use Rattle.policies.proofs.Candidates.{least_candidate, least_candidate_is_first}
use Rattle.policies.proofs.LeastKept.{kept_is_first, none_above}
use Rattle.policies.proofs.MadeMoments.{found_is_made}
use Rattle.policies.proofs.halving.HalvingPolicy.first_kept.Goals as goal

pub returns-then-gt-clause-least : goal.returns-then-gt-clause-least
returns-then-gt-clause-least c = sym (none_above _ _ _ (search rules))

pub returns-then-eq-clause-least : goal.returns-then-eq-clause-least
returns-then-eq-clause-least c =
    let to : c.args.from.value ≤ c.args.present.value = le_from_not_gt _ _ (search rules) in
    sym (kept_is_first _ _ _ to (grind (arith, nat_tests)))

pub returns : goal.returns
returns c =
    let to : c.args.from.value ≤ c.args.present.value = le_from_not_gt _ _ (search rules) in
    let pos : 0 < c.args.from.value = grind (arith, nat_tests) in
    let first : c.fold-first.result ≡ least_candidate c.args.self.now.reach c.args.from.value c.args.present.value =
    fold_from_yields_List _ min _ _ c.fold-first.ensures.ran
    (YieldsList-from_map _ (λ z. candidate c.args.self.now.reach z c.args.from.value c.args.present.value)
    (YieldsList-from_range 0 20 20 c.map.ensures.source (search rules)) c.map.ensures.closure (λ x r q k. search rules))
    (λ a x b q k. search rules)
    ∙ ap (λ n. fold min n (map (λ z. candidate c.args.self.now.reach z c.args.from.value c.args.present.value) (range_with_len 0 20))) c.number.ensures in
    let least = least_candidate_is_first c.args.self.now.reach c.args.from.value c.args.present.value pos to c.args.present.within in
    let found = found_is_made c.fold-first.result c.args.from.value c.args.present.value _ _ c.ok.ensures.value c.try_from.ensures (rw first least.0) to c.args.present.within in
    record { least = found.0 ∙ rw first (sym least.1); found = found.1 }
