use Rattle.hold_calls.proofs.NewsHeld.{buzzer_by_told as law}
use Rattle.hold_calls.proofs.buzzers.told_buzzer.Goals as goal

pub returns : goal.returns
returns c = law
