-- Runs that wait in a queue.
use Rattle.std.specs.Prelude.{◌≡◌, List, drop, length, take}
use Rattle.answer_lanes.specs.declared.run.Run.{Run}
use Rattle.answer_lanes.specs.declared.run_queue.RunQueue.{RunQueue}

module _ {S : Type 0} where
  -- the runs that wait, the first one in front
  abbrev pub queued : RunQueue S → List (Run S)
  queued queue = drop queue.begin (take queue.end queue.room.items)

  -- a queue has as much room as before
  abbrev pub HasSameRoom : RunQueue S → RunQueue S → Type 0
  HasSameRoom old new' = length new'.room.items ≡ length old.room.items
