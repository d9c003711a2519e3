use Rattle.std.proofs.Common.{◌≡◌, ◌∙◌, true, arith, rules}
use Rattle.std.proofs.lemmas.Bool.Decides.{nat_tests}
use Rattle.std.proofs.lemmas.Iterator.{YieldsList-from_slice}
use Rattle.std.proofs.lemmas.Iterator.Consumers.{fold_from_yields_List}
use Rattle.commands.specs.Numbers.{number_in}
use Rattle.commands.specs.Words.{is_numeral}
use Rattle.commands.proofs.Numerals.{next_value, value_of_numeral}
use Rattle.commands.proofs.words.number.Goals as goal

pub returns-then-not-is_numeral : goal.returns-then-not-is_numeral
unfolding number_in
returns-then-not-is_numeral c = grind (arith, nat_tests, c.if-not-is_numeral.ensures)

pub returns : goal.returns
returns c =
    let word = c.args.word.now in
    let digits : is_numeral word ≡ true = search rules in
    let value = fold_from_yields_List _ next_value 0 c.fold-value.result c.fold-value.ensures.ran (YieldsList-from_slice word cc) (λ a x b q k. search rules) in
    c.or.ensures ∙ value_of_numeral word c.fold-value.result c.try_from.result digits value c.try_from.ensures
