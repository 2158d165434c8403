-- The connections that a door gave and took back while they were served, one after another.
use Rattle.std.specs.Prelude.{◌≡◌, List, ◌++◌, Option, Some, MatchOption, map, ⊤}
use Rattle.desk_doors.specs.Doors.{ToldConn}

-- what a door tells before a call and after it: the connections that wait and those that were handed back
pub record DoorSides : Type 0 where
  pub waiting_before : Option (List ToldConn)
  pub waiting_after : Option (List ToldConn)
  pub handed_before : Option (List ToldConn)
  pub handed_after : Option (List ToldConn)

abbrev pub door_sides : {G : Type 0} → (G → Option (List ToldConn)) → (G → Option (List ToldConn)) → G → G → DoorSides
door_sides waiting handed door door' =
    record {
      waiting_before = waiting door;
      waiting_after = waiting door';
      handed_before = handed door;
      handed_after = handed door';
    }

-- of each connection it is known how it was given and how it was handed back
module _ {C : Type 0} (given back : C → ToldConn) where
  -- these connections were the first of those that waited; nothing is said where nothing is told any more
  abbrev pub GivesAll : List C → Option (List ToldConn) → Option (List ToldConn) → Type 0
  GivesAll conns before after = MatchOption after ⊤ (λ waiting. before ≡ Some (map given conns ++ waiting))

  -- these connections were handed back, in this order, behind those that were handed back before; nothing is said where
  -- nothing is told any more
  abbrev pub HandsBackAll : List C → Option (List ToldConn) → Option (List ToldConn) → Type 0
  HandsBackAll conns before after =
      MatchOption after ⊤ (λ handed. (first : List ToldConn) × (before ≡ Some first)
      × (handed ≡ first ++ map back conns))

  -- a door gave these connections and took each back before it gave the next
  pub record PassesAll (conns : List C) (door : DoorSides) : Type 0 where
    pub gives : GivesAll conns door.waiting_before door.waiting_after
    pub takes : HandsBackAll conns door.handed_before door.handed_after
