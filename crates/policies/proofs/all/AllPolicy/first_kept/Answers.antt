use Rattle.std.proofs.Common.{◌<◌, ◌≤◌, sym, ◌∙◌, inl, inr, arith, rules}
use Rattle.std.proofs.lemmas.Bool.{cases_Bool}
use Rattle.std.proofs.lemmas.Bool.Decides.{nat_tests}
use Rattle.std.proofs.lemmas.Map.Keys.{le_from_is_le}
use Rattle.policies.proofs.LeastKept.{kept_is_first, none_above}
use Rattle.policies.proofs.all.AllPolicy.first_kept.Goals as goal

pub returns-clause-least : goal.returns-clause-least
returns-clause-least c = elim (cases_Bool c.le.result) [
  | inl below ↦
      let to : c.args.from.value ≤ c.args.present.value = le_from_is_le _ _ (sym c.le.ensures ∙ below) in
      rw (c.then_some.ensures, below) (sym (kept_is_first _ _ _ to (grind (arith, nat_tests))))
  | inr above ↦
      let behind : c.args.present.value < c.args.from.value = search rules in
      rw (c.then_some.ensures, above) (sym (none_above _ _ _ behind))
]
