use Rattle.std.proofs.Common.{◌∙◌, rules, nat_eq}
use Rattle.std.proofs.lemmas.Iterator.{YieldsList-from_slice}
use Rattle.std.proofs.lemmas.Iterator.Search.{position_from_yields_List}
use borrow.Author.Tests.{tests}
use Rattle.values.proofs.Places.{place_or_end}
use Rattle.values.proofs.bytes.place_of.Goals as goal

pub returns-clause-place : goal.returns-clause-place
returns-clause-place c =
    c.unwrap_or.ensures
    ∙ place_or_end (λ b. nat_eq b c.args.byte) c.args.bytes.now c.position.result
    (position_from_yields_List (λ b. nat_eq b c.args.byte) _ _ _ c.position.ensures.ran
    (YieldsList-from_slice c.args.bytes.now c.iter.ensures.rest) (λ x b q k. search (rules, tests)))
