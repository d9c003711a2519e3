use Rattle.std.proofs.Common.{◌-◌, ap, ◌∙◌}
use Rattle.entry_layout.specs.Layout.{zeroed}
use Rattle.packed_log.proofs.TakingOut.{moved_and_zeroed}
use Rattle.packed_log.proofs.moves.take_out.Goals as goal

pub returns : goal.returns
returns c =
    c.fill_zero.ensures
    ∙ ap (zeroed (c.args.end - c.args.size) c.args.end) c.copy_within.ensures.after
    ∙ moved_and_zeroed c.args.at c.args.size c.args.end c.args.bytes.now c.if-at-end.false c.if-size-end.false c.if-end-bytes.false
