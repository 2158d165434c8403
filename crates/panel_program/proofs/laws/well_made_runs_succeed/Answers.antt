use Rattle.panel_program.specs.Commands.{call_disks}
use Rattle.panel_program.proofs.Succeeding.{succeed}
use Rattle.panel_program.proofs.laws.well_made_runs_succeed.Goals as goal

pub returns : goal.returns
returns g c words files old new other other' =
    succeed words files
    (call_disks g.D.Disk.seen g.D.Disk.honest g.D.Disk.images g.D.Disk.moment g.D.Disk.left_since old new other other')
