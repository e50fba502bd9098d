-- The zeros before and behind b stay.
use Rattle.std.proofs.Common.{◌+◌, ◌-◌, length, arith}
use Rattle.poly.proofs.Windows.{padded_places}
use Rattle.poly.proofs.lanes.padded.Goals as goal

pub returns : goal.returns
returns c =
    padded_places (8 + length c.args.b.now - 8) c.args.b.now c.copy_from_slice.new.self (omega arith) c.copy_from_slice.ensures.after c.requires
