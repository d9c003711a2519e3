use Rattle.std.proofs.Common.{arith, rules}
use Rattle.std.proofs.lemmas.Bool.Decides.{nat_tests}
use Rattle.std.proofs.lemmas.Iterator.{YieldsList-from_slice}
use Rattle.std.proofs.lemmas.Iterator.Search.{all_from_yields_List}
use borrow.Author.Tests.{tests}
use Rattle.names.specs.NameRule.{is_name_byte}
use Rattle.names.proofs.name_rule.is_name.Goals as goal

pub returns-then-fits : goal.returns-then-fits
returns-then-fits c =
    let e = all_from_yields_List is_name_byte _ _ c.all.result c.all.ensures.ran
    (YieldsList-from_slice c.args.bytes.now c.iter.ensures.rest) (λ x b q k. search (rules, tests)) in
    grind (arith, nat_tests)
