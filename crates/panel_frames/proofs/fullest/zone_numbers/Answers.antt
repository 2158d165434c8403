use Rattle.std.proofs.Common.{refl}
use Rattle.panel_frames.proofs.ZoneMasks.{none_of}
use Rattle.panel_frames.proofs.fullest.zone_numbers.Goals as goal

pub loop-zone-init : goal.loop-zone-init
loop-zone-init c = record { size = refl; known = λ number within. none_of 256 number }
