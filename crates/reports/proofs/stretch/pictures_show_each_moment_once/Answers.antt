use Rattle.reports.proofs.Parts.{columns_hold_each_once, rows_hold_each_once}
use Rattle.reports.proofs.stretch.pictures_show_each_moment_once.Goals as goal

pub returns : goal.returns
returns c = record { columns = columns_hold_each_once; rows = rows_hold_each_once }
