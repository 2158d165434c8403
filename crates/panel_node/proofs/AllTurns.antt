-- The turns of a tick of a panel by itself: its own, and Keep's.
use Rattle.std.proofs.Common.{◌≡◌, ◌∙◌, ◌≤◌, ℕ, List, ◌∷◌, false, sym, ap, subst}
use Rattle.panel_edges.specs.Crashes.{LeavesOnly}
use Rattle.tick_units.specs.Orders.{canonical_seats}
use Rattle.tick_units.specs.Ticks.{last_tick}
use Rattle.site_types.specs.declared.retained.Retained.{Retained}
use Rattle.site_types.specs.declared.site.Site.{Site}
use Rattle.keep_turn.specs.declared.store.Store.{Store}
use Rattle.node_rules.specs.Histories.{NodeMoment, befallen}
use Rattle.panel_core.specs.Keeping.{KeepsRun, before_keep, has_failed}
use Rattle.panel_core.specs.PowerCuts.{OpensToFront, OpensToFrontOr}
use Rattle.panel_core.proofs.Fronts.{front_left, fronts_left, left_over_stays}
use Rattle.panel_core.proofs.Orders.{panels_keep}
use Rattle.panel_rules.specs.Batches.{batch}
use Rattle.panel_rules.specs.Moments.{Kept, IsRun, and_turns, tick_of}
use Rattle.retained_journal.specs.declared.journal.Journal.{Journal}
use Rattle.retained_journal.specs.Images.{HasRoomForTwo, MayLeave, MayLeaveOr}
use Rattle.panel_node.specs.declared.node.Node.{Node}
use Rattle.panel_node.specs.Changes.{MakesOwnTurns}
use Rattle.panel_node.specs.Keeping.{KeepsTurn, LeavesWithBatch, MayKeep, MayTurnAll, NodeHasTurned, and_all_turns}
use Rattle.panel_node.specs.Seats.{and_seats}
use Rattle.panel_node.specs.Stands.{MayTurnOwn, NodeStandsFor}
use Rattle.panel_node.proofs.Seats.{all_befallen, all_is, all_panels, at_keep, at_own, befallen_seats, keep_befallen, keep_run, keep_tick, own_run, own_tick, parts, seats}
use Rattle.panel_node.proofs.Seats.{stands_at_keep, stands_others}

module _ {journal : Journal} {old between : Node} (own : MakesOwnTurns old between) {site : Site} {panel : ℕ} {kept : Retained} {history : List NodeMoment}
    (h : NodeStandsFor site panel kept history old) (keeps : KeepsRun site kept (befallen history) journal) (run : IsRun site.panels (and_all_turns site history))
    (few : tick_of (befallen history) ≤ last_tick) where
  -- what had befallen before the turn of Keep
  abbrev then : List NodeMoment
  then = at_keep site panel kept history h.parts.member

  stands_then : NodeStandsFor site panel kept then between
  stands_then =
      stands_at_keep site panel kept history h.parts.member between
      (own site panel kept (at_own site panel kept history h.parts.member)
      (stands_others site panel kept old (parts site panel kept history h.parts.member).earlier history (parts site panel kept history h.parts.member).elsewhere_earlier h)
      (own_run site panel kept history h.parts.member run))

  keeps_then : KeepsRun site kept (befallen then) journal
  keeps_then =
      subst (λ ms. KeepsRun site kept ms journal) (sym (keep_befallen site panel kept history h.parts.member)) (record {
        keeps = keeps.keeps ∙ sym (panels_keep site kept false (seats site panel kept history h.parts.member) (befallen history) (all_panels site panel kept history h.parts.member));
        wide = keeps.wide;
        torn = λ torn. left_over_stays site kept journal.attempt.items false (seats site panel kept history h.parts.member) (befallen history)
            (all_panels site panel kept history h.parts.member) (keeps.torn torn);
      })

  few_then : tick_of (befallen then) ≤ last_tick
  few_then = rw (keep_tick site panel kept history h.parts.member) few

  run_then : IsRun site.panels (Kept false ∷ befallen then)
  run_then = keep_run site panel kept history h.parts.member run

  pub may_keep : journal.tried ≤ last_tick → MayKeep journal between
  may_keep tried = record {
    site = site;
    panel = panel;
    kept = kept;
    history = then;
    stands = stands_then;
    keeps = keeps_then;
    run = run_then;
    few = few_then;
    tried = tried;
  }

  module _ (store : Store) (journal' : Journal) (after : Node) (made : KeepsTurn between journal store journal' after) where
    pub all_turned : NodeHasTurned site panel kept (and_seats (has_failed store) (canonical_seats site.panels) history) store journal' after
    all_turned =
        subst (λ x. NodeHasTurned site panel kept x store journal' after) (all_is site panel kept history h.parts.member (has_failed store))
        (made site panel kept then stands_then keeps_then run_then few_then)

    -- at each moment of the turn of Keep a power cut leaves a front of the run before these turns, or what is kept with their batch
    pub fronts_then : {D : Type 0} (moment : D → ℕ) (left_since : D → ℕ → List ℕ → Type 0) (disk disk' : D)
        → LeavesWithBatch moment left_since disk disk' between journal → HasRoomForTwo journal
        → LeavesOnly moment left_since disk disk'
        (OpensToFrontOr site kept journal.digest (befallen history) (batch site kept (before_keep (and_all_turns site history))))
    fronts_then moment left_since disk disk' leaves room =
        fronts_left site kept (befallen history) journal keeps moment left_since disk disk' (batch site kept (before_keep (and_all_turns site history)))
        (subst (λ ms. LeavesOnly moment left_since disk disk' (MayLeaveOr journal (batch site kept ms)))
        (sym (ap before_keep (all_befallen site panel kept history h.parts.member false)))
        (leaves site panel kept then stands_then keeps_then run_then.0 few_then room))

    -- and after them one of the run with them
    pub front_then : journal'.digest ≡ journal.digest → (file : List ℕ) → MayLeave journal' file
        → OpensToFront site kept journal.digest (and_turns (has_failed store) (canonical_seats site.panels) (befallen history)) file
    front_then same file left =
        subst (λ digest. OpensToFront site kept digest (and_turns (has_failed store) (canonical_seats site.panels) (befallen history)) file) same
        (front_left site kept (and_turns (has_failed store) (canonical_seats site.panels) (befallen history)) journal'
        (subst (λ ms. KeepsRun site kept ms journal') (befallen_seats (has_failed store) (canonical_seats site.panels) history) all_turned.keeps) file left)

-- all may have their turns, so the panel's own tasks may, once the panels before it had theirs
pub may_turn_own : (journal : Journal) (node : Node) → MayTurnAll journal node → MayTurnOwn node
may_turn_own journal node r =
    let member = r.stands.parts.member in
    record {
      site = r.site;
      panel = r.panel;
      kept = r.kept;
      history = at_own r.site r.panel r.kept r.history member;
      stands =
          stands_others r.site r.panel r.kept node (parts r.site r.panel r.kept r.history member).earlier r.history
          (parts r.site r.panel r.kept r.history member).elsewhere_earlier r.stands;
      run = own_run r.site r.panel r.kept r.history member r.run;
      few = rw (own_tick r.site r.panel r.kept r.history member) r.few;
    }
