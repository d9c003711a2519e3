use Rattle.policies.proofs.GivenUp.{given_up_for_good}
use Rattle.policies.proofs.policy.given_up_for_good.Goals as goal

pub returns : goal.returns
returns g c = given_up_for_good (g.P.Policy.kept c.args.policy.now) (g.met.P.Policy.lasting c.args.policy.now)
