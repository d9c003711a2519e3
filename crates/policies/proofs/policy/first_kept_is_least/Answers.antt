use Rattle.policies.proofs.LeastKept.{first_kept_is_least}
use Rattle.policies.proofs.policy.first_kept_is_least.Goals as goal

pub returns : goal.returns
returns c = first_kept_is_least
