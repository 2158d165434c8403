-- What is kept of the silences, resounds and turns so far.
use Rattle.std.specs.Prelude.{◌≡◌, List, None, if◌then◌else◌}
use Rattle.sounder_control.specs.declared.silence.Silence.{Silence}
use Rattle.sounder_control.specs.Quiet.{Call, latest_set, silenced_set, is_quiet}

-- a silence stands for all that befell it: it keeps the latest set, and the set that a silence took while
-- that one holds
pub record StandsFor (calls : List Call) (silence : Silence) : Type 0 where
  pub latest : silence.latest ≡ latest_set calls
  pub taken : silence.taken ≡ (if is_quiet calls then silenced_set calls else None)
