use Rattle.hold_calls.proofs.NewsHeld.{buzzer_held as law}
use Rattle.hold_calls.proofs.buzzers.held_buzzer.Goals as goal

pub returns : goal.returns
returns c = law
