-- The connections that were served behind a door, and what came of each.
use Rattle.std.specs.Prelude.{Bool, false, true, List}
use Rattle.std.specs.List.{list_any}
use Rattle.desk_doors.specs.Doors.{ToldConn}
use Rattle.desk_doors.specs.Passing.{DoorSides, PassesAll}
use Rattle.panel_desk.specs.Serving.{ConnSides}
use Rattle.panel_desk.specs.declared.served.Served.{Served}
use Rattle.panel_desk.specs.declared.served.Served.TheVariants.{Answered, Stopped, Ended, ReadFault, WriteFault}

-- a connection as it was given and as it was handed back, and what came of it
pub record ServedConn : Type 0 where
  pub given : ToldConn
  pub back : ToldConn
  pub served : Served

abbrev pub sides_of_conn : ServedConn → ConnSides
sides_of_conn conn =
    record {
      left = conn.given.unread;
      rest = conn.back.unread;
      written_before = conn.given.answer;
      written_after = conn.back.answer;
    }

abbrev pub is_stop : Served → Bool
is_stop (Answered status) = false
is_stop Stopped = true
is_stop Ended = false
is_stop ReadFault = false
is_stop WriteFault = false

-- one of these connections was a stop
abbrev pub has_stop : List ServedConn → Bool
has_stop conns = list_any (λ (conn : ServedConn). is_stop conn.served) conns

-- a door gave these connections and took each back before it gave the next
abbrev pub GivesAndTakes : List ServedConn → DoorSides → Type 0
GivesAndTakes = PassesAll (λ (conn : ServedConn). conn.given) (λ (conn : ServedConn). conn.back)
