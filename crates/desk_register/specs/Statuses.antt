-- Replies, each with its status.
use Rattle.std.specs.Prelude.{ℕ, nat_lt, if◌then◌else◌}
use Rattle.desk_answers.specs.declared.object.Object.{Object as JsonObject}
use Rattle.desk_answers.specs.declared.object.Object.TheVariants.{Denied, Empty, OtherVisit, Stopped}
use Rattle.desk_bodies.specs.declared.refusal.BodyRefusal.{BodyRefusal}
use Rattle.desk_bodies.specs.declared.refusal.BodyRefusal.TheVariants as body
use Rattle.desk_requests.specs.declared.status.Status.{Status}
use Rattle.desk_requests.specs.declared.status.Status.TheVariants as status
use Rattle.service_register.specs.declared.refusal.RegisterRefusal.{RegisterRefusal}
use Rattle.service_register.specs.declared.refusal.RegisterRefusal.TheVariants as why
use Rattle.desk_register.specs.declared.reply.Reply.{Reply}
use Rattle.desk_register.specs.declared.reply.Reply.TheVariants.{Object, Table}

-- the status that a reply begins with
abbrev pub status_of : Reply → Status
status_of (Object status object) = status
status_of (Table bytes) = status.Done

-- all is done, and this is told
abbrev pub done : JsonObject → Reply
done object = Object status.Done object

-- a refusal that tells nothing more
abbrev pub refused : Status → Reply
refused status = Object status Empty

-- the level of the code isn't enough
abbrev pub denied : ℕ → Reply
denied level = Object status.Forbidden (Denied level)

-- the level that putting a visit and ending the serving need
abbrev pub needed_level : ℕ
needed_level = 3

-- the reply to the end of serving, by the level of its code
abbrev pub stop_reply : ℕ → Reply
stop_reply level = if nat_lt level needed_level then denied level else done Stopped

-- the reply to a body that isn't read
abbrev pub unread_reply : BodyRefusal → Reply
unread_reply body.BadForm = refused status.BadRequest
unread_reply body.NoMemory = refused status.NoRoom

-- the reply to what the register refuses
abbrev pub refusal_reply : RegisterRefusal → Reply
refusal_reply why.NoSuchPoint = refused status.NoRoom
refusal_reply (why.Differs visit) = Object status.Conflict (OtherVisit visit)
refusal_reply why.NoSuchVisit = refused status.NoRoom
refusal_reply why.KeeperFault = refused status.Unavailable
refusal_reply why.NoMemory = refused status.NoRoom
