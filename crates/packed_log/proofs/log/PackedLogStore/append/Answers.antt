use Rattle.std.proofs.Common.{refl}
use Rattle.stores.proofs.Kept.{append_accepted}
use Rattle.packed_log.proofs.Steps.{log_appended}
use Rattle.packed_log.proofs.log.PackedLogStore.append.Goals as goal

pub invariant_of-self : goal.invariant_of-self
invariant_of-self c =
    let admitted = rw (← c.self.view_is) at (rw c.standing.ensures at c.in_ok-admit.ensures) in
    (log_appended c.args.number c.args.block.now c.self.invariant admitted c.ranges.number.fits c.write.ensures).sound

pub returns : goal.returns
returns c =
    let admitted = rw (← c.self.view_is) at (rw c.standing.ensures at c.in_ok-admit.ensures) in
    let done = log_appended c.args.number c.args.block.now c.self.invariant admitted c.ranges.number.fits c.write.ensures in
    rw (← c.self.view_is) (record {
      appends = record { answered = append_accepted _ _ c.args.number c.args.block.now _ _ admitted refl refl done.contents; unaltered = tt };
      sound = done.sound;
      lawful = done.sound.lawful;
      bytes = done.laid;
      same = tt;
    })
