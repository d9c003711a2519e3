use Rattle.std.proofs.Common.{◌<◌, arith}
use Rattle.reports.proofs.Counting.{no_row_above}
use Rattle.reports.proofs.stretch.Stretch.ages.Goals as goal

pub returns-in_err-youngest : goal.returns-in_err-youngest
returns-in_err-youngest c =
    let above : 20 < c.args.row = omega (arith, c.in_err-youngest.ensures) in
    rw c.from_residual.ensures (no_row_above c.args.row c.args.present.value above c.args.present.within)
