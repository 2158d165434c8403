use Rattle.std.proofs.Common.{◌<◌, arith, inl, length, refl, subst}
use Rattle.desk_requests.specs.Heads.{IsNoHead}
use Rattle.desk_requests.proofs.HeadLaws.{field_count, none_with_many}
use Rattle.desk_requests.proofs.request_room.RequestRoom.look.Goals as goal

pub returns-in_default : goal.returns-in_default
returns-in_default c =
    let held = rw c.in-Ok-Complete.field-0-is at c.in-Ok-Complete.ensures.complete in
    let same = field_count c.parse.new.self.headers.now held.0.fields held.1.fields in
    let over = c.if-head-le-MOST_FIELDS.false in
    let many : 32 < length held.0.fields = omega (arith, same, over) in
    inl (refl, subst IsNoHead c.read_so_far.ensures (none_with_many _ held.0 _ held.1.reads many))
