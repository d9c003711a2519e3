use Rattle.std.proofs.Common.{eqb, rules}
use Rattle.std.proofs.lemmas.Iterator.Consumers.{YieldsList-from_first}
use Rattle.std.proofs.lemmas.Iterator.Search.{find_from_yields_List}
use borrow.Author.Tests.{tests}
use Rattle.packed_log.specs.Walk.{placed, ahead}
use Rattle.packed_log.proofs.log.PackedLog.find.Goals as goal

pub returns : goal.returns
returns c =
    let entries = YieldsList-from_first placed ahead {s = c.new.result} _ c.new.ensures in
    rw (← c.self.view_is) (find_from_yields_List (λ p. eqb p.1.number c.args.number) c.find.new.self _ c.find.result c.find.ensures.ran entries (λ x b q k. search (rules, tests)))
