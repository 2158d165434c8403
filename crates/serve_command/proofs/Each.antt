-- Connections that are served, one more.
use Rattle.std.proofs.Common.{◌≡◌, ◌∙◌, ◌++◌, ◌+◌, ◌*◌, ◌^◌, ◌≤◌, ◌<◌, ℕ, Bool, true, false, List, [], ◌∷◌, length, Option, Some, None}
use Rattle.std.proofs.Common.{refl, sym, ap, subst, arith, length-append}
use Rattle.desk_doors.specs.Doors.{StillTells}
use Rattle.desk_doors.specs.Passing.{DoorSides}
use Rattle.desk_doors.proofs.Passing.{door_from, none_passed, passed_more, passed_same}
use Rattle.desk_runs.specs.Ticks.{HasRoomForTick}
use Rattle.panel_desk.specs.declared.served.Served.{Served}
use Rattle.panel_rules.specs.Moments.{TickBlock, moments}
use Rattle.serve_command.specs.Acting.{GivesNone, IsAt, ServesAt, ServesSome, World, between}
use Rattle.serve_command.specs.Doors.{GivesAndTakes, ServedConn, has_stop, is_stop}
use Rattle.serve_command.specs.Serving.{Between, ServesConn, ServesEach, and_conn, no_conn}
use Rattle.serve_command.specs.declared.counter.Counter.{Counter}
use Rattle.serve_command.proofs.Doors.{back_of, given_of, stops_more}
use Rattle.site_run.specs.Outside.{DiskKind, Stored}
use Rattle.site_run.specs.Stands.{Stores}
use Rattle.site_run.proofs.Cuts.{stores_more, stores_same}
use Rattle.site_types.specs.declared.retained.Retained.{Retained}
use Rattle.site_types.specs.declared.site.Site.{Site}

module _ (site : Site) (kept : Retained) {kind : DiskKind} where
  -- nothing was served yet
  pub serves_none : (world : World kind) (door : DoorSides) (counter : Counter) → door.waiting_after ≡ door.waiting_before
      → StillTells door.handed_before door.handed_after → IsAt site kept [] counter → ServesSome site kept world world door counter counter 0 false
  serves_none world door counter waiting handed at =
      record {
        ticks = [];
        conns = [];
        each = no_conn;
        gave = none_passed given_of back_of door waiting handed;
        count = refl;
        stops = refl;
        is_at = at;
        few = omega arith;
      }

  -- one connection more was served
  pub serves_more : (first last next : World kind) (door mid : DoorSides) (before between_them after : Counter) (served : ℕ) (what : Served)
      → mid.waiting_before ≡ door.waiting_after → mid.handed_before ≡ door.handed_after
      → (some : ServesSome site kept first last door before between_them served false) → ServesAt site kept some.ticks last next mid between_them after what
      → ServesSome site kept first next (door_from door mid) before after (served + 1) (is_stop what)
  serves_more first last next door mid before between_them after served what waiting handed some one =
      let count = some.count in
      let sum = length-append some.conns (one.conn ∷ []) in
      let few = some.few in
      let more = one.few in
      record {
        ticks = one.next;
        conns = some.conns ++ one.conn ∷ [];
        each = and_conn some.conns one.conn _ _ some.each some.stops one.serves;
        gave = passed_more given_of back_of some.conns one.conn door mid waiting handed some.gave one.gives one.takes;
        count = omega (arith, count, sum);
        stops = stops_more some.conns one.conn some.stops ∙ ap is_stop one.is_conn;
        is_at = one.is_at;
        few = omega (arith, few, more);
      }

  -- what power cuts leave goes on over all of them
  pub stores_each : (first : Between kind) (conns : List ServedConn) (last : Between kind) → ServesEach site kept first conns last
      → Stores site kept first.stored last.stored first.ticks last.ticks
  stores_each first conns last no_conn = stores_same site kept first.stored first.stored first.ticks refl refl
  stores_each first conns last (and_conn some conn mid next each none one) =
      stores_more site kept first.stored mid.stored next.stored first.ticks mid.ticks next.ticks (stores_each first some mid each) one.stores

  -- there is room for another tick
  pub room_for : (first last : World kind) (door : DoorSides) (before after : Counter) (served : ℕ) (stopped : Bool)
      → (some : ServesSome site kept first last door before after served stopped) → served ≤ 1000000 → HasRoomForTick some.ticks
  room_for first last door before after served stopped some few = let all = some.few in omega (arith, all, few)

  pub stopped_as : (first last : World kind) (door : DoorSides) (before after : Counter) (served : ℕ) (b c : Bool) → b ≡ c
      → ServesSome site kept first last door before after served b → ServesSome site kept first last door before after served c
  stopped_as first last door before after served b c e = subst (λ s. ServesSome site kept first last door before after served s) e

  -- the door gave none more
  pub serves_same : (first last next : World kind) (door mid : DoorSides) (before between_them after : Counter) (served : ℕ) (stopped : Bool)
      → mid.waiting_before ≡ door.waiting_after → mid.handed_before ≡ door.handed_after → ServesSome site kept first last door before between_them served stopped
      → GivesNone site kept last next mid between_them after → ServesSome site kept first next (door_from door mid) before after served stopped
  serves_same first last next door mid before between_them after served stopped waiting handed some none =
      subst (λ w. ServesSome site kept first w (door_from door mid) before after served stopped) (sym none.world)
      (subst (λ c. ServesSome site kept first last (door_from door mid) before c served stopped) (sym none.same)
      (record {
        ticks = some.ticks;
        conns = some.conns;
        each = some.each;
        gave = passed_same given_of back_of some.conns door mid waiting handed some.gave none.waiting none.handed;
        count = some.count;
        stops = some.stops;
        is_at = some.is_at;
        few = some.few;
      }))
