use Rattle.std.proofs.Common.{◌≡◌, All, None, Option, Result, ℕ, drop}
use Rattle.std.specs.List.{filter_map, fold}
use Rattle.sqlite.specs.Held.{Held, state}
use Rattle.sqlite.specs.State.{HasCleanDisk}
use Rattle.service_keepers.specs.Tables.{later_day}
use Rattle.register_sqlite.specs.Asked.{HasNumber, LooksUpEach}
use Rattle.register_sqlite.specs.Stored.{ComesAfter, IsRegister, IsSteady, KeepsRegister, tables_in}
use Rattle.register_sqlite.specs.Days.{day_shown}
use Rattle.register_sqlite.specs.declared.trouble.Trouble.{Trouble}
use Rattle.register_sqlite.proofs.asking.last_day.Given as goal

abbrev pub invariant-loop-row : goal.invariant-loop-row
invariant-loop-row g l =
    (IsSteady g.S.Store → IsRegister (state g.S.Store l.initial.conn) → All HasNumber l.row-items
    → KeepsRegister (state g.S.Store l.initial.conn) (state g.S.Store l.conn)
    × (fold later_day l.last (filter_map (day_shown (tables_in (state g.S.Store l.initial.conn).now.trees).visits) (drop l.row-index l.row-items))
    ≡ fold later_day None (filter_map (day_shown (tables_in (state g.S.Store l.initial.conn).now.trees).visits) l.row-items)))
    × ComesAfter (state g.S.Store l.initial.conn) (state g.S.Store l.conn)
    × (HasCleanDisk (state g.S.Store l.conn) → (new : Held _) (result : Result (Option ℕ) Trouble)
    → LooksUpEach g.S.Store (drop l.row-index l.row-items) l.last l.conn new result → LooksUpEach g.S.Store l.row-items None l.initial.conn new result)
