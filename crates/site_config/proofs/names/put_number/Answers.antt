use Rattle.site_config.proofs.NumberMaps.{put}
use Rattle.site_config.proofs.names.put_number.Goals as goal

pub returns : goal.returns
returns c = λ q. put c.args.number q c.args.numbers.now c.insert.new.self c.in_ok-insert.ensures.updates
