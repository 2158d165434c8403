use Rattle.hold_calls.proofs.NewsHeld.{news_by_told as law}
use Rattle.hold_calls.proofs.buzzers.told_news.Goals as goal

pub returns : goal.returns
returns c = law
