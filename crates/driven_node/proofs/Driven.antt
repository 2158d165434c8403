-- What each call of a panel by itself leaves it with, tick by tick.
use Rattle.std.proofs.Common.{◌≡◌, Bool, ◌-◌, ◌+◌, ◌^◌, ◌<◌, ◌≤◌, List, [], ◌∷◌, ◌++◌, true, false, length, length-append, refl, sym, ap, subst, arith, lit<}
use Rattle.panel_edges.specs.MemoryDisks.{images_of}
use Rattle.panel_edges.specs.declared.memory_disk.MemoryDisk.{MemoryDisk}
use Rattle.tick_units.specs.declared.seat.Seat.{Seat}
use Rattle.tick_units.specs.Orders.{canonical_seats}
use Rattle.tick_units.proofs.OrderLaws.{IsOrder-canonical_seats}
use Rattle.site_types.specs.Changes.{nothing_retained}
use Rattle.site_types.specs.declared.event.Event.{Event}
use Rattle.site_types.specs.declared.event.Event.TheVariants.{Point, Cable, Supply, Link, Confirmed, Op}
use Rattle.site_types.specs.declared.site.Site.{Site}
use Rattle.site_types.specs.Events.{has_event}
use Rattle.retained_journal.specs.Images.{Stands}
use Rattle.retained_journal.specs.declared.journal.Journal.{Journal}
use Rattle.keep_turn.specs.Turns.{TriesAtMostOnce}
use Rattle.keep_turn.specs.declared.store.Store.{Store}
use Rattle.node_inputs.specs.OwnEvents.{is_event_of}
use Rattle.node_rules.specs.Histories.{Befell, FrameCame, NodeMoment, befallen}
use Rattle.panel_core.specs.Keeping.{KeepsRun, has_failed}
use Rattle.panel_core.proofs.Orders.{turns_ask, turns_tick}
use Rattle.panel_frames.specs.Grammar.{IsFrame}
use Rattle.panel_links.specs.declared.frame.Frame.{Frame}
use Rattle.panel_node.specs.declared.node.Node.{Node}
use Rattle.panel_node.specs.Keeping.{MayTurnAll, NodeHasTurned}
use Rattle.panel_node.specs.Seats.{and_seats}
use Rattle.panel_node.specs.Stands.{MayBegin, MayHappen, MayReceive, NodeStandsFor, StandsForHistory}
use Rattle.panel_rules.specs.Moments.{Moment, Began, Happened, HaveAllTurned, IsPanel, IsRun, and_turns, tick_of, turn_of}
use Rattle.panel_rules.specs.Operations.{requests}
use Rattle.panel_rules.proofs.RecordRuns.{Fresh, order_run, all_turned}
use Rattle.driven_node.specs.declared.driven_node.DrivenNode.{DrivenNode}
use Rattle.driven_node.specs.Nodes.{IsDrivenNode}

pub opens : (site : Site) (own : DrivenNode) → IsPanel site.panels own.panel → NodeStandsFor site own.panel nothing_retained [] own.node
    → KeepsRun site nothing_retained [] own.journal → Stands (λ (disk : MemoryDisk). Unit {0}) images_of own.disk own.journal
    → own.journal.tried ≡ 0 → own.events ≡ 0 → own.has_begun ≡ false → IsDrivenNode own
opens site own member stands keeps images untried none closed = record {
  site = site;
  history = [];
  member = member;
  stands = stands;
  keeps = keeps;
  images = images;
  run = tt;
  asked = omega arith;
  few_events = omega (arith, none);
  few_ticks = omega arith;
  tried = omega (arith, untried);
  closed = λ h. record { each = λ panel task p t. refl; keep = refl };
  opened = λ some. absurd (cc);
}

pub some_history : (own : DrivenNode) → IsDrivenNode own → StandsForHistory own.node
some_history own h = record { site = h.site; panel = own.panel; kept = nothing_retained; history = h.history; stands = h.stands }

pub may_begin : (own : DrivenNode) → IsDrivenNode own → own.has_begun ≡ false → MayBegin own.node
may_begin own h closed = record {
  site = h.site;
  panel = own.panel;
  kept = nothing_retained;
  history = h.history;
  stands = h.stands;
  run = (h.run, h.closed closed);
}

pub begins : (own : DrivenNode) (node : Node) (h : IsDrivenNode own) → own.has_begun ≡ false → tick_of (befallen h.history) < 1000000
    → NodeStandsFor h.site own.panel nothing_retained (Befell Began ∷ h.history) node
    → IsDrivenNode (record own { node = node; has_begun = true })
begins own node h closed few stands = record {
  site = h.site;
  history = Befell Began ∷ h.history;
  member = h.member;
  stands = stands;
  keeps = record { keeps = h.keeps.keeps; wide = h.keeps.wide; torn = h.keeps.torn };
  images = h.images;
  run = (h.run, h.closed closed);
  asked = h.asked;
  few_events = h.few_events;
  few_ticks = omega (arith, few);
  tried = (let tried = h.tried in omega (arith, tried));
  closed = λ none. absurd (cc);
  opened =
      λ some. record {
        fresh = refl;
        unturned = λ panel task. refl;
        unkept = refl;
        untried = (let tried = h.tried in omega (arith, tried));
      };
}

pub may_happen : (own : DrivenNode) (event : Event) (h : IsDrivenNode own) → has_event h.site event ≡ true
    → is_event_of h.site own.panel event ≡ true → MayHappen event own.node
may_happen own event h has is_own =
    let asked = h.asked in
    let few = h.few_events in
    let top : 1000000 < 2 ^ 64 - 1 = lit< tt in
    record {
      site = h.site;
      panel = own.panel;
      kept = nothing_retained;
      history = h.history;
      stands = h.stands;
      has = has;
      own = is_own;
      few = omega (arith, asked, few, top);
    }

one_more : {X : Type 0} (xs : List X) (x : X) → length (xs ++ x ∷ []) ≤ length xs + 1
one_more xs x = let e = length-append xs (x ∷ []) in omega (arith, e)

-- an event asks for one operation at most
asks_once : (site : Site) (event : Event) (before : List Moment) → length (requests site (Happened event ∷ before)) ≤ length (requests site before) + 1
asks_once site (Op panel code operation) before = one_more (requests site before) _
asks_once site (Point point state) before = omega arith
asks_once site (Cable panel line piece state) before = omega arith
asks_once site (Supply panel kind bad) before = omega arith
asks_once site (Link link up) before = omega arith
asks_once site (Confirmed output) before = omega arith

pub happens : (own : DrivenNode) (node : Node) (event : Event) (h : IsDrivenNode own) → own.has_begun ≡ true → own.events < 1000000
    → NodeStandsFor h.site own.panel nothing_retained (Befell (Happened event) ∷ h.history) node
    → IsDrivenNode (record own { node = node; events = own.events + 1 })
happens own node event h begun few stands =
    let tick = h.opened begun in
    record {
      site = h.site;
      history = Befell (Happened event) ∷ h.history;
      member = h.member;
      stands = stands;
      keeps = record { keeps = h.keeps.keeps; wide = h.keeps.wide; torn = h.keeps.torn };
      images = h.images;
      run = (h.run, tick.fresh);
      asked = (let asked = h.asked in let once = asks_once h.site event (befallen h.history) in omega (arith, asked, once));
      few_events = omega (arith, few);
      few_ticks = h.few_ticks;
      tried = h.tried;
      closed = λ none. absurd (cc);
      opened = λ some. record { fresh = tick.fresh; unturned = tick.unturned; unkept = tick.unkept; untried = tick.untried };
    }

pub may_receive : (own : DrivenNode) (frame : Frame) (h : IsDrivenNode own) → IsFrame h.site own.panel frame → MayReceive frame own.node
may_receive own frame h framed = record {
  site = h.site;
  panel = own.panel;
  kept = nothing_retained;
  history = h.history;
  stands = h.stands;
  framed = framed;
}

pub receives : (own : DrivenNode) (node : Node) (frame : Frame) (h : IsDrivenNode own)
    → NodeStandsFor h.site own.panel nothing_retained (FrameCame frame ∷ h.history) node → IsDrivenNode (record own { node = node })
receives own node frame h stands = record {
  site = h.site;
  history = FrameCame frame ∷ h.history;
  member = h.member;
  stands = stands;
  keeps = h.keeps;
  images = h.images;
  run = h.run;
  asked = h.asked;
  few_events = h.few_events;
  few_ticks = h.few_ticks;
  tried = h.tried;
  closed = h.closed;
  opened = h.opened;
}

-- turns are made after what befell
seats_befall : (failed : Bool) (seats : List Seat) (history : List NodeMoment)
    → befallen (and_seats failed seats history) ≡ and_turns failed seats (befallen history)
seats_befall failed [] history = refl
seats_befall failed (seat ∷ seats) history = seats_befall failed seats (Befell (turn_of failed seat.panel seat.task) ∷ history)

module _ (own : DrivenNode) (h : IsDrivenNode own) (begun : own.has_begun ≡ true) where
  fresh : Fresh h.site.panels (befallen h.history)
  fresh =
      let tick = h.opened begun in
      record { run = h.run; fresh = tick.fresh; unturned = tick.unturned; unkept = tick.unkept }

  pub turns_run : (failed : Bool) → IsRun h.site.panels (and_turns failed (canonical_seats h.site.panels) (befallen h.history))
  turns_run failed =
      order_run h.site.panels failed (befallen h.history) fresh (canonical_seats h.site.panels) (IsOrder-canonical_seats h.site.panels)

  pub few_now : tick_of (befallen h.history) ≤ 1000000000
  few_now = let few = h.few_ticks in omega (arith, few)

  pub may_turn : MayTurnAll own.journal own.node
  may_turn = record {
    site = h.site;
    panel = own.panel;
    kept = nothing_retained;
    history = h.history;
    stands = h.stands;
    keeps = h.keeps;
    run = turns_run false;
    few = few_now;
    tried = (let few = h.few_ticks in let tried = h.tried in omega (arith, few, tried));
  }

  -- the turns are made, with this journal and disk
  pub turns : (node : Node) (journal : Journal) (disk : MemoryDisk) (store : Store)
      → NodeHasTurned h.site own.panel nothing_retained (and_seats (has_failed store) (canonical_seats h.site.panels) h.history) store journal node
      → Stands (λ (disk : MemoryDisk). Unit {0}) images_of disk journal → TriesAtMostOnce own.journal journal
      → IsDrivenNode (record own { node = node; journal = journal; disk = disk; has_begun = false })
  turns node journal disk store made images once =
      let seats = canonical_seats h.site.panels in
      let failed = has_failed store in
      let befall = seats_befall failed seats h.history in
      let tick = turns_tick failed seats (befallen h.history) in
      let all = ap tick_of befall in
      record {
        site = h.site;
        history = and_seats failed seats h.history;
        member = h.member;
        stands = made.stands;
        keeps = made.keeps;
        images = images;
        run = subst (IsRun h.site.panels) (sym befall) (turns_run failed);
        asked = (
            let asked = h.asked in
            let none = ap (λ ms. length (requests h.site ms)) befall in
            let same = ap length (turns_ask h.site failed seats (befallen h.history)) in
            omega (arith, asked, none, same)
            );
        few_events = h.few_events;
        few_ticks = (let few = h.few_ticks in omega (arith, few, tick, all));
        tried =
            (let untried = (h.opened begun).untried in let more = once.tried in omega (arith, untried, more, tick, all));
        closed =
            λ none. subst (λ ms. HaveAllTurned h.site.panels ms) (sym befall)
            (all_turned h.site.panels failed (befallen h.history) fresh seats (IsOrder-canonical_seats h.site.panels));
        opened = λ some. absurd (cc);
      }
