-- What each call of a system with its journal leaves it with, tick by tick.
use Rattle.std.proofs.Common.{◌≡◌, Bool, inl, inr, ◌-◌, ◌+◌, ◌^◌, ◌<◌, ◌≤◌, ℕ, List, [], ◌∷◌, ◌++◌, true, false, length, length-append, refl, sym, ap, subst, arith, lit<}
use Rattle.panel_edges.specs.MemoryDisks.{images_of}
use Rattle.panel_edges.specs.declared.memory_disk.MemoryDisk.{MemoryDisk}
use Rattle.tick_units.specs.declared.seat.Seat.{Seat}
use Rattle.tick_units.specs.Orders.{IsOrder}
use Rattle.site_types.specs.Changes.{nothing_retained}
use Rattle.site_types.specs.declared.event.Event.{Event}
use Rattle.site_types.specs.declared.event.Event.TheVariants.{Point, Cable, Supply, Link, Confirmed, Op}
use Rattle.site_types.specs.declared.retained.Retained.{Retained}
use Rattle.site_types.specs.declared.site.Site.{Site}
use Rattle.site_types.specs.Events.{has_event}
use Rattle.retained_journal.specs.Images.{Stands}
use Rattle.retained_journal.specs.Outcomes.{IsKeptIn}
use Rattle.keep_turn.specs.Turns.{TriesAtMostOnce}
use Rattle.keep_turn.specs.declared.store.Store.{Store}
use Rattle.panel_rules.specs.Moments.{Moment, Began, Happened, IsRun, and_turns, tick_of}
use Rattle.panel_rules.specs.Operations.{requests}
use Rattle.panel_rules.proofs.RecordRuns.{Fresh, order_run, all_turned}
use Rattle.panel_core.specs.declared.system.System.{System}
use Rattle.panel_core.specs.Keeping.{HasTurned, KeepsRun, MayTurnAll, has_failed}
use Rattle.panel_core.proofs.Orders.{turns_ask, turns_tick}
use Rattle.panel_core.specs.Stands.{StandsFor, HasPanel, MayBegin, MayHappen}
use Rattle.driven_panel.specs.declared.installation.Installation.{Installation}
use Rattle.driven_panel.specs.Installations.{IsBetween, HasBegun}

-- a journal that is opened in an empty file keeps nothing
pub keeps_nothing : (wide : Bool) (digest : List ℕ) (state : Retained) (file : List ℕ) → file ≡ [] → IsKeptIn wide digest state file
    → state ≡ nothing_retained
keeps_nothing wide digest state (x ∷ file) none kept = absurd (cc)
keeps_nothing wide digest state [] none (inl opens) = absurd (cc)
keeps_nothing wide digest state [] none (inr (empty, nothing)) = nothing

pub opens : (site : Site) (own : Installation) → StandsFor site nothing_retained [] own.system
    → KeepsRun site nothing_retained [] own.journal → Stands (λ (disk : MemoryDisk). Unit {0}) images_of own.disk own.journal
    → own.journal.tried ≡ 0 → own.events ≡ 0 → IsBetween site.panels own
opens site own stands keeps images untried none = record {
  site = site;
  before = [];
  after =
      record {
        stands = stands;
        keeps = keeps;
        images = images;
        run = tt;
        asked = omega arith;
        few_events = omega (arith, none);
        few_ticks = omega arith;
      };
  same = refl;
  all = record { each = λ panel task p t. refl; keep = refl };
  tried = omega (arith, untried);
}

pub may_begin : (panels : ℕ) (own : Installation) → IsBetween panels own → MayBegin own.system
may_begin panels own h =
    record { site = h.site; kept = nothing_retained; before = h.before; stands = h.after.stands; run = (h.after.run, h.all) }

pub begins : (panels : ℕ) (own : Installation) (system : System) (h : IsBetween panels own) → tick_of h.before < 1000000
    → StandsFor h.site nothing_retained (Began ∷ h.before) system → HasBegun panels (record own { system = system })
begins panels own system h few stands =
    record {
      site = h.site;
      before = Began ∷ h.before;
      after =
          record {
            stands = stands;
            keeps = record { keeps = h.after.keeps.keeps; wide = h.after.keeps.wide; torn = h.after.keeps.torn };
            images = h.after.images;
            run = (h.after.run, h.all);
            asked = h.after.asked;
            few_events = h.after.few_events;
            few_ticks = omega (arith, few);
          };
      same = h.same;
      fresh = refl;
      unturned = λ panel task. refl;
      unkept = refl;
      tried = (let tried = h.tried in omega (arith, tried));
    }

pub may_happen : (panels : ℕ) (own : Installation) (event : Event) (h : HasBegun panels own) → has_event h.site event ≡ true → MayHappen event own.system
may_happen panels own event h has =
    let asked = h.after.asked in
    let few = h.after.few_events in
    let top : 1000000 < 2 ^ 64 - 1 = lit< tt in
    record {
      site = h.site;
      kept = nothing_retained;
      before = h.before;
      stands = h.after.stands;
      has = has;
      few = omega (arith, asked, few, top);
    }

one_more : {X : Type 0} (xs : List X) (x : X) → length (xs ++ x ∷ []) ≤ length xs + 1
one_more xs x = let e = length-append xs (x ∷ []) in omega (arith, e)

-- an event asks for one operation at most
asks_once : (site : Site) (event : Event) (before : List Moment) → length (requests site (Happened event ∷ before)) ≤ length (requests site before) + 1
asks_once site (Op panel code operation) before = one_more (requests site before) _
asks_once site (Point point state) before = omega arith
asks_once site (Cable panel line piece state) before = omega arith
asks_once site (Supply panel kind bad) before = omega arith
asks_once site (Link link up) before = omega arith
asks_once site (Confirmed output) before = omega arith

pub happens : (panels : ℕ) (own : Installation) (system : System) (event : Event) (h : HasBegun panels own) → own.events < 1000000
    → StandsFor h.site nothing_retained (Happened event ∷ h.before) system
    → HasBegun panels (record own { system = system; events = own.events + 1 })
happens panels own system event h few stands =
    record {
      site = h.site;
      before = Happened event ∷ h.before;
      after =
          record {
            stands = stands;
            keeps = record { keeps = h.after.keeps.keeps; wide = h.after.keeps.wide; torn = h.after.keeps.torn };
            images = h.after.images;
            run = (h.after.run, h.fresh);
            asked = (let asked = h.after.asked in let once = asks_once h.site event h.before in omega (arith, asked, once));
            few_events = omega (arith, few);
            few_ticks = h.after.few_ticks;
          };
      same = h.same;
      fresh = h.fresh;
      unturned = h.unturned;
      unkept = h.unkept;
      tried = h.tried;
    }

fresh : (panels : ℕ) (own : Installation) (h : HasBegun panels own) → Fresh h.site.panels h.before
fresh panels own h = record { run = h.after.run; fresh = h.fresh; unturned = h.unturned; unkept = h.unkept }

order_of : (panels : ℕ) (own : Installation) (order : List Seat) (h : HasBegun panels own) → IsOrder panels order → IsOrder h.site.panels order
order_of panels own order h ordered = subst (λ n. IsOrder n order) (sym h.same) ordered

pub turns_run : (panels : ℕ) (own : Installation) (order : List Seat) (h : HasBegun panels own) → IsOrder panels order
    → IsRun h.site.panels (and_turns false order h.before)
turns_run panels own order h ordered =
    order_run h.site.panels false h.before (fresh panels own h) order (order_of panels own order h ordered)

pub few_ticks : (panels : ℕ) (own : Installation) (h : HasBegun panels own) → tick_of h.before ≤ 1000000000
few_ticks panels own h = let few = h.after.few_ticks in omega (arith, few)

pub may_turn : (panels : ℕ) (own : Installation) (order : List Seat) → HasBegun panels own → IsOrder panels order
    → MayTurnAll order own.journal own.system
may_turn panels own order h ordered =
    record {
      site = h.site;
      kept = nothing_retained;
      before = h.before;
      stands = h.after.stands;
      keeps = h.after.keeps;
      ordered = order_of panels own order h ordered;
      run = turns_run panels own order h ordered;
      few = few_ticks panels own h;
      tried = (let few = h.after.few_ticks in let tried = h.tried in omega (arith, few, tried));
    }

pub ends : (panels : ℕ) (own after : Installation) (order : List Seat) (store : Store) (h : HasBegun panels own) → IsOrder panels order
    → HasTurned h.site nothing_retained (and_turns (has_failed store) order h.before) store after.journal after.system
    → Stands (λ (disk : MemoryDisk). Unit {0}) images_of after.disk after.journal
    → TriesAtMostOnce own.journal after.journal → after.events ≡ own.events → IsBetween panels after
ends panels own after order store h ordered kept images once events =
    let ordered_here = order_of panels own order h ordered in
    let tick = turns_tick (has_failed store) order h.before in
    record {
      site = h.site;
      before = and_turns (has_failed store) order h.before;
      after =
          record {
            stands = kept.stands;
            keeps = kept.keeps;
            images = images;
            run = order_run h.site.panels (has_failed store) h.before (fresh panels own h) order ordered_here;
            asked = (
                let asked = h.after.asked in
                let none = ap length (turns_ask h.site (has_failed store) order h.before) in
                omega (arith, asked, none, events)
                );
            few_events = (let few = h.after.few_events in omega (arith, few, events));
            few_ticks = (let few = h.after.few_ticks in omega (arith, few, tick));
          };
      same = h.same;
      all = all_turned h.site.panels (has_failed store) h.before (fresh panels own h) order ordered_here;
      tried = (let tried = h.tried in let more = once.tried in omega (arith, tried, more, tick));
    }

pub has_panel : (panels panel : ℕ) (own : Installation) → IsBetween panels own → 1 ≤ panel → panel ≤ panels → HasPanel panel own.system
has_panel panels panel own h first last =
    let same = h.same in
    record {
      site = h.site;
      kept = nothing_retained;
      before = h.before;
      stands = h.after.stands;
      member = (first, omega (arith, last, same));
    }
