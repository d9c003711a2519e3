use Rattle.std.proofs.Common.{refl}
use lib.Count.{count_trailing_zeros}
use Rattle.policies.specs.FirstKept.{first_kept}
use Rattle.worked_examples.proofs.examples_hold.Goals as goal

pub returns : goal.returns
unfolding count_trailing_zeros first_kept
returns c = record {
  sixteen_bytes = refl;
  seventeen_bytes = refl;
  no_bytes = refl;
  slash = refl;
  a_before_a_srt = refl;
  a_srt_before_b = refl;
  a_srt_packed = refl;
  window_three = refl;
  halving_two = refl;
  first_from_five = refl;
  first_from_eleven = refl;
  seen_at_first = refl;
  unseen_at_end = refl;
  header_of_three_bytes = refl;
  one_entry_fits = refl;
  two_entries_fit = refl;
}
