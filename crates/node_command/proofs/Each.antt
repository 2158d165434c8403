-- Connections that are served, one more.
use Rattle.std.proofs.Common.{◌≡◌, ◌∙◌, ◌++◌, ◌+◌, ◌*◌, ◌^◌, ◌≤◌, ℕ, List, [], ◌∷◌, length, refl, sym, ap, subst, arith, length-append}
use Rattle.desk_doors.specs.Doors.{StillTells, ToldConn}
use Rattle.desk_doors.specs.Passing.{DoorSides}
use Rattle.desk_doors.proofs.Passing.{door_from, none_passed, passed_more, passed_same}
use Rattle.desk_runs.specs.Ticks.{HasRoomForTick}
use Rattle.node_answers.specs.Exchanges.{ExchangedConn, Exchanges, ExchangesEach, and_conn, no_conn}
use Rattle.node_answers.specs.declared.exchanged.Exchanged.{Exchanged}
use Rattle.node_command.specs.Acting.{GivesNone, ServesAt, ServesSome}
use Rattle.node_desk.specs.Running.{node_stored_new, node_stored_old}
use Rattle.node_desk.specs.Runs.{RunsFor}
use Rattle.node_desk.specs.declared.node_run.NodeRun.{NodeRun}
use Rattle.panel_rules.specs.Moments.{TickBlock, moments}
use Rattle.retained_journal.specs.declared.journal.Journal.{Journal}
use Rattle.site_run.specs.Outside.{DiskKind, Disks}
use Rattle.site_run.specs.Stands.{Stores}
use Rattle.site_run.proofs.Cuts.{stores_more, stores_same}
use Rattle.site_types.specs.declared.retained.Retained.{Retained}
use Rattle.site_types.specs.declared.site.Site.{Site}

abbrev pub given_of : ExchangedConn → ToldConn
given_of conn = conn.given

abbrev pub back_of : ExchangedConn → ToldConn
back_of conn = conn.back

module _ (site : Site) (panel : ℕ) (kept : Retained) (kind : DiskKind) where
  abbrev from_to : kind.Of → kind.Of → Disks
  from_to old new = record { kind = kind; old = old; new = new }

  -- nothing was served yet
  pub serves_none : (disk : kind.Of) (door : DoorSides) (run : NodeRun) → door.waiting_after ≡ door.waiting_before
      → StillTells door.handed_before door.handed_after → RunsFor site panel kept [] [] run
      → ServesSome site panel kept (from_to disk disk) door run run 0
  serves_none disk door run waiting handed runs =
      record {
        history = [];
        ticks = [];
        conns = [];
        each = no_conn;
        gave = none_passed given_of back_of door waiting handed;
        count = refl;
        runs = runs;
        stores = stores_same {kind = kind} site kept (node_stored_old (from_to disk disk) run) (node_stored_new (from_to disk disk) run) [] refl refl;
        few = omega arith;
      }

  -- one connection more was served
  pub serves_more : (a b c : kind.Of) (door mid : DoorSides) (before between after : NodeRun) (served : ℕ) (what : Exchanged)
      → mid.waiting_before ≡ door.waiting_after → mid.handed_before ≡ door.handed_after → between.node.digest ≡ before.node.digest
      → (some : ServesSome site panel kept (from_to a b) door before between served)
      → ServesAt site panel kept some.history some.ticks (from_to b c) mid between after what
      → ServesSome site panel kept (from_to a c) (door_from door mid) before after (served + 1)
  serves_more a b c door mid before between after served what waiting handed digest some one =
      let count = some.count in
      let sum = length-append some.conns (one.conn ∷ []) in
      let few = some.few in
      let more = one.few in
      let exchanges =
      subst (λ d. Exchanges site d panel kept some.history one.conn.given one.conn.back one.conn.exchanged one.later) digest
      (subst (λ e. Exchanges site between.node.digest panel kept some.history one.conn.given one.conn.back e one.later) (sym one.is_conn) one.exchanges) in
      record {
        history = one.later;
        ticks = one.next;
        conns = some.conns ++ one.conn ∷ [];
        each = and_conn some.conns one.conn some.history one.later some.each exchanges;
        gave = passed_more given_of back_of some.conns one.conn door mid waiting handed some.gave one.gives one.takes;
        count = omega (arith, count, sum);
        runs = one.runs;
        stores =
            stores_more {kind = kind} site kept (node_stored_old (from_to a b) before) (node_stored_new (from_to a b) between) (node_stored_new (from_to b c) after) []
            some.ticks one.next some.stores one.stores;
        few = omega (arith, few, more);
      }

  -- there is room for another tick
  pub room_for : (disks : Disks) (door : DoorSides) (before after : NodeRun) (served : ℕ) (some : ServesSome site panel kept disks door before after served)
      → served ≤ 1000000 → HasRoomForTick some.ticks
  room_for disks door before after served some few = let all = some.few in omega (arith, all, few)

  -- the door gave none more
  pub serves_same : (a b c : kind.Of) (door mid : DoorSides) (before between after : NodeRun) (served : ℕ) → mid.waiting_before ≡ door.waiting_after
      → mid.handed_before ≡ door.handed_after → ServesSome site panel kept (from_to a b) door before between served
      → GivesNone (from_to b c) mid between after → ServesSome site panel kept (from_to a c) (door_from door mid) before after served
  serves_same a b c door mid before between after served waiting handed some none =
      subst (λ d. ServesSome site panel kept (from_to a d) (door_from door mid) before after served) (sym none.disk)
      (subst (λ (r : NodeRun). ServesSome site panel kept (from_to a b) (door_from door mid) before r served) (sym none.same)
      (record {
        history = some.history;
        ticks = some.ticks;
        conns = some.conns;
        each = some.each;
        gave = passed_same given_of back_of some.conns door mid waiting handed some.gave none.waiting none.handed;
        count = some.count;
        runs = some.runs;
        stores = some.stores;
        few = some.few;
      }))
