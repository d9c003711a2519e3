use Rattle.std.proofs.Common.{arith}
use Rattle.std.proofs.lemmas.Bool.Decides.{nat_tests}
use Rattle.policies.proofs.Candidates.{limit_is_whole}
use Rattle.policies.proofs.halving.Halving.limit.Goals as goal

pub returns : goal.returns
returns c =
    rw c.number.ensures
    (limit_is_whole c.args.self.reach c.args.t.value c.args.self.within c.args.t.within (grind (arith, nat_tests)))
