use Rattle.hold_calls.proofs.NewsHeld.{news_held as law}
use Rattle.hold_calls.proofs.buzzers.held_news.Goals as goal

pub returns : goal.returns
returns c = law
