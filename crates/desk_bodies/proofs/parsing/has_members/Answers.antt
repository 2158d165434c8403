use Rattle.std.proofs.Common.{sym}
use Rattle.serde_json.specs.View.{view}
use Rattle.desk_bodies.proofs.Members.{members_counted}
use Rattle.desk_bodies.proofs.parsing.has_members.Goals as goal

pub returns-in-Some : goal.returns-in-Some
returns-in-Some c =
    members_counted c.args.count (view c.args.value.now) c.in-Some.map.now.entries c.len.result (sym c.in-Some.ensures) c.len.ensures.len
