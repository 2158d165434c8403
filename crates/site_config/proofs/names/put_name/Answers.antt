use Rattle.std.proofs.Common.{Some, string_bytes}
use Rattle.std.proofs.lemmas.Map.Text.{btree_map_updates_text}
use Rattle.site_config.proofs.names.put_name.Goals as goal

pub returns : goal.returns
returns c =
    λ q. rw (← c.in_ok-key.ensures.ok)
    (btree_map_updates_text (string_bytes c.in_ok-key.key) c.args.names.now c.insert.new.self (Some c.args.thing) c.in_ok-insert.ensures.updates q)
