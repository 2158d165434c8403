use Rattle.std.proofs.lemmas.Result.{IfOk-weaker}
use Rattle.site_config.proofs.NameEntries.{listed}
use Rattle.site_config.proofs.named_list.names_of.Goals as goal

pub returns : goal.returns
returns c = IfOk-weaker c.list_names.result _ _ (λ xs same. listed c.args.names.now xs same c.len-room.ensures.ordered) c.list_names.ensures
