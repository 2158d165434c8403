use Rattle.std.proofs.Common.{refl}
use Rattle.output_drive.proofs.DoneTaken.{takes_nothing}
use Rattle.output_drive.proofs.drive.Drive.apply.Goals as goal

pub returns-in-Silence : goal.returns-in-Silence
returns-in-Silence c =
    rw c.in-Silence.is
    (record { silence = c.silence.ensures; delays = λ site panel active calls h up. h; routing = refl; on = refl; sounders = refl })

pub returns-in-Resound : goal.returns-in-Resound
returns-in-Resound c =
    rw c.in-Resound.is
    (record { silence = c.resound.ensures; delays = λ site panel active calls h up. h; routing = refl; on = refl; sounders = refl })

pub returns-in-Override : goal.returns-in-Override
returns-in-Override c =
    rw c.in-Override.is
    (record { silence = λ calls h. h; delays = c.override_now.ensures; routing = refl; on = refl; sounders = refl })

pub returns-in-Delays : goal.returns-in-Delays
returns-in-Delays c =
    rw c.in-Delays.is
    (record {
      silence = λ calls h. h;
      delays = λ site panel active calls h up. c.set_delays.ensures site panel active calls h;
      routing = refl;
      on = refl;
      sounders = refl;
    })

pub returns-in_default : goal.returns-in_default
returns-in_default c =
    takes_nothing c.args.self.now c.args.operation.now c.args.at.0 c.in_default.not-Silence c.in_default.not-Resound c.in_default.not-Override
    c.in_default.not-Delays
