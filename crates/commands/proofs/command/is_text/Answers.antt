use Rattle.std.proofs.Common.{arith}
use Rattle.std.proofs.lemmas.Grind.{common_steps}
use Rattle.std.proofs.lemmas.Str.{IsUtf8-from_is_utf8, is_utf8-from_IsUtf8}
use Rattle.commands.proofs.command.is_text.Goals as goal

pub returns : goal.returns
returns c = grind (arith, common_steps, IsUtf8-from_is_utf8 c.args.line.now, is_utf8-from_IsUtf8 c.args.line.now)
