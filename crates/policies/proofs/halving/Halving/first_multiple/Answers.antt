use Rattle.std.proofs.Common.{◌∙◌, arith}
use Rattle.std.proofs.lemmas.Nat.{one_shl}
use Rattle.policies.proofs.Candidates.{reach_is_whole}
use Rattle.policies.proofs.halving.Halving.first_multiple.Goals as goal

pub returns : goal.returns
returns c =
    let step = one_shl c.args.zeros 32 (omega arith) in
    let age = reach_is_whole c.args.self.reach c.args.zeros c.args.self.within c.requires in
    c.next_multiple_of.ensures.value ∙ simp (c.max.ensures, c.saturating_sub-oldest.ensures, c.number.ensures, c.number-2.ensures, step, age)
