use Rattle.std.proofs.Common.{take}
use Rattle.output_drive.proofs.DoneTaken.{HasTaken}
use Rattle.output_drive.proofs.drive.Drive.begin.Given as goal

abbrev pub invariant-loop-one : goal.invariant-loop-one
invariant-loop-one l = HasTaken l.panel l.at.0 l.fn.self (take l.one-index l.done) l.self
