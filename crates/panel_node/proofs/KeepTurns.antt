-- A turn of Keep of a panel by itself: what is left to keep is the batch of the rules, and what is noted after it. The other panels have no entries.
use Rattle.std.proofs.Common.{◌≡◌, ◌≢◌, ◌∙◌, ◌-◌, ◌≤◌, ℕ, Bool, true, false, List, ◌∷◌, length, get_or, set, inl, inr, refl, sym, ap, subst, arith, length-set, replicate}
use Rattle.std.specs.Prelude.{slice_index}
use Rattle.std.proofs.lemmas.Bool.Decides.{eqb_tells}
use Rattle.std.proofs.lemmas.List.{get_or-replicate, get_or-set_other, get_or-set_same, get_or_past}
use Rattle.site_types.proofs.Done.{lt_tells}
use Rattle.tick_units.specs.Ticks.{last_tick}
use Rattle.site_types.specs.declared.change.Change.{Change}
use Rattle.site_types.specs.declared.retained.Retained.{Retained}
use Rattle.site_types.specs.declared.site.Site.{Site}
use Rattle.site_types.specs.Done.{Done}
use Rattle.hold_calls.specs.Told.{Told}
use Rattle.hold_calls.specs.Turns.{hold_turns}
use Rattle.keep_batch.specs.Making.{MayMake, batch_from}
use Rattle.keep_batch.specs.MakingLaws.{IsLeftToKeep}
use Rattle.keep_batch.proofs.Committing.{batch_may_be_committed}
use Rattle.keep_batch.proofs.Making.{batch_is, batch_may_be_made}
use Rattle.keep_turn.specs.Turns.{MayCommit}
use Rattle.node_rules.specs.Histories.{Befell, NodeMoment, befallen}
use Rattle.node_rules.proofs.QuietPoints.{quiet_panels}
use Rattle.operation_desk.specs.declared.desk.Desk.{Desk}
use Rattle.operation_desk.specs.declared.request.Request.{Request}
use Rattle.operation_desk.specs.Requests.{requests_from}
use Rattle.operation_desk.specs.Stands.{CanAnswerAll, DesksFor, MayTakeKeepTurn}
use Rattle.panel_conditions.specs.Changes.{ShowsAs}
use Rattle.panel_conditions.specs.Shown.{entries_after}
use Rattle.panel_core.specs.Keeping.{KeepsRun}
use Rattle.panel_laws.specs.TimelineLaws.{counted_entries}
use Rattle.panel_laws.proofs.EntriesAddUp.{counted_once}
use Rattle.panel_laws.proofs.EventsOfSite.{of_site}
use Rattle.panel_parts.specs.declared.kept_counts.KeptCounts.{KeptCounts}
use Rattle.panel_parts.specs.Applied.{applied, done_so_far}
use Rattle.panel_parts.specs.Entries.{AreLeft, CountsFor, counts_kept}
use Rattle.panel_parts.proofs.Counts.{counts_stay}
use Rattle.panel_parts.proofs.EntriesKept.{counted_by_keep, left_to_keep}
use Rattle.panel_parts.proofs.Panels.{after_keep}
use Rattle.panel_rules.specs.Batches.{batch, kept_after, new_entries}
use Rattle.panel_rules.specs.Moments.{Moment, Kept, IsPanel, IsRun, tick_of}
use Rattle.panel_rules.specs.Operations.{operations}
use Rattle.retained_journal.specs.declared.journal.Journal.{Journal}
use Rattle.panel_node.specs.declared.node.Node.{Node}
use Rattle.panel_node.specs.Keeping.{TellsOwnEntries}
use Rattle.panel_node.specs.Stands.{NodeStandsFor}
use Rattle.panel_node.specs.Told.{word_of_itself, told_by_frames}
use Rattle.panel_node.proofs.Next.{own_stays, stands_next}
use Rattle.panel_node.proofs.OwnEvents.{others_quiet}

-- ---- entries

-- put at the panel's place among none
pub own_entries : (node : Node) (zeros : List ℕ) (count : ℕ) → length zeros ≡ 8 → ((place : ℕ) → get_or zeros place 0 ≡ 0) → 1 ≤ node.panel → node.panel ≤ 8
    → ShowsAs node.parts.hold count entries_after → TellsOwnEntries node (set zeros (node.panel - 1) count)
own_entries node zeros count wide none low high shows = record {
  own = λ place at site kept panel done turns holds. (
      let same : node.panel - 1 ≡ place = omega (arith, at) in
      ap (λ k. get_or (set zeros (node.panel - 1) count) k 0) (sym same)
      ∙ get_or-set_same zeros (node.panel - 1) count 0 (omega (arith, wide, low, high))
      ∙ shows site kept panel done turns holds);
  others = λ place apart. get_or-set_other zeros (node.panel - 1) place count 0 (λ same. apart (omega (arith, same, low))) ∙ none place;
  sized = length-set zeros (node.panel - 1) count ∙ wide;
}

abbrev pub zeros : List ℕ
zeros = replicate 8 0

pub none_at : (place : ℕ) → get_or zeros place 0 ≡ 0
none_at place = elim (lt_tells place 8) [
  | inl t ↦ get_or-replicate 8 place 0 0 t.1
  | inr t ↦ get_or_past zeros place 0 t.1
]

-- the other panels have none
module _ (site : Site) (panel : ℕ) (kept : Retained) (history : List NodeMoment) (node : Node) (h : NodeStandsFor site panel kept history node) (run :
    IsRun site.panels (befallen history)) where
  abbrev before : List Moment
  before = befallen history

  abbrev told : Told
  told = told_by_frames site kept (applied site kept before) panel history

  module _ (other : ℕ) (apart : other ≢ panel) (done : List Done) where
    none_new : length (new_entries site kept done other before) ≡ 0
    none_new = ap length (quiet_panels site kept done other before run (others_quiet site panel other apart before h.own_events)).1

    none_counted : counted_entries site kept done other (Kept false ∷ before) ≡ 0
    none_counted =
        let none = ap length (quiet_panels site kept done other before run (others_quiet site panel other apart before h.own_events)).0 in
        let once = counted_once site kept done other before in
        omega (arith, none, once, none_new)

  -- ---- what is left to keep

  module _ (few : tick_of before ≤ last_tick) (since left : List ℕ) (tells : TellsOwnEntries node since) (less : AreLeft since node.counts.entries left) where
    own_left : slice_index left (panel - 1) ≡ length (new_entries site kept (operations site kept before).done panel before)
    own_left =
        let p = h.parts.member in
        let eight = h.valid.forms.panels.1 in
        let own = h.own in
        less (panel - 1) (omega (arith, p.0, p.1, eight))
        ∙ ap (λ n. n - slice_index node.counts.entries (panel - 1))
        (tells.own (panel - 1) (omega (arith, own, p.0)) site kept panel (applied site kept before) (hold_turns site kept (applied site kept before) told panel before)
        h.parts.holds)
        ∙ left_to_keep site kept panel before told h.valid run p (slice_index node.counts.entries (panel - 1)) (h.counts.counted panel p)

    other_left : (other : ℕ) → IsPanel site.panels other → other ≢ panel
        → slice_index left (other - 1) ≡ length (new_entries site kept (operations site kept before).done other before)
    other_left other p apart =
        let eight = h.valid.forms.panels.1 in
        let own = h.own in
        let none = tells.others (other - 1) (λ same. apart (omega (arith, same, own, p.0))) in
        let rest = less (other - 1) (omega (arith, p.0, p.1, eight)) in
        let fresh = none_new other apart (operations site kept before).done in
        omega (arith, none, rest, fresh)

    pub is_left : (waiting : List Request) → waiting ≡ node.desk.waiting.items → IsLeftToKeep site kept before left waiting
    is_left waiting same = record {
      entered = λ other p. elim (eqb_tells other panel) [
        | inl t ↦ subst (λ q. slice_index left (q - 1) ≡ length (new_entries site kept (operations site kept before).done q before)) (sym t.1) own_left
        | inr t ↦ other_left other p t.1
      ];
      waits = ap requests_from same ∙ h.desk.outcomes.unsettled.waiting_is;
    }

    pub may_make : (waiting : List Request) → waiting ≡ node.desk.waiting.items → MayMake node.site left waiting
    may_make waiting same =
        subst (λ s. MayMake s left waiting) (sym h.same)
        (batch_may_be_made site kept before left waiting h.valid run (of_site site before h.events) few (is_left waiting same))

    pub left_batch : (waiting : List Request) → waiting ≡ node.desk.waiting.items → batch_from node.site left waiting ≡ batch site kept before
    left_batch waiting same = ap (λ s. batch_from s left waiting) h.same ∙ batch_is site kept before left waiting (is_left waiting same)

  -- and the journal can keep it
  pub can_commit : (journal : Journal) (changes : List Change) → KeepsRun site kept before journal → changes ≡ batch site kept before
      → MayCommit journal.wide changes
  can_commit journal changes keeps is = rw (keeps.wide, is) (batch_may_be_committed site kept before h.valid run (of_site site before h.events))

  -- ---- what is noted after it

  keep_may : (failed : Bool) → IsRun site.panels (Kept failed ∷ before) → MayTakeKeepTurn site failed before
  keep_may failed turned = record { valid = h.valid; run = turned; of = of_site site before h.events }

  pub can_keep : (failed : Bool) → IsRun site.panels (Kept failed ∷ before) → CanAnswerAll failed node.desk
  can_keep failed turned = record { site = site; kept = kept; before = before; stands = h.desk; may = keep_may failed turned }

  stands_kept : (failed : Bool) (desk : Desk) (counts : KeptCounts) → DesksFor site kept (Kept failed ∷ before) desk → CountsFor site kept (Kept failed ∷ before) counts
      → NodeStandsFor site panel kept (Befell (Kept failed) ∷ history) (record node { desk = desk; counts = counts })
  stands_kept failed desk counts desks counted =
      stands_next site panel kept history node h (Kept failed) refl h.events h.own_events node.parts node.words
      (word_of_itself site kept (applied site kept before) panel history before) desk counts
      (after_keep site kept (applied site kept before) told panel failed before node.parts h.parts)
      (own_stays site kept (applied site kept before) panel (Kept failed) history refl) h.words desks counted

  counts_noted : (since : List ℕ) (journal : Journal) → TellsOwnEntries node since → journal.kept ≡ kept_after site kept (Kept false ∷ before)
      → CountsFor site kept (Kept false ∷ before) (record { entries = since; counters = journal.kept.counters })
  counts_noted since journal tells keeps = record {
    counted = λ other p. elim (eqb_tells other panel) [
      | inl t ↦ subst (λ q. slice_index since (q - 1) ≡ counted_entries site kept (done_so_far site kept (Kept false ∷ before)) q (Kept false ∷ before)) (sym t.1) own_noted
      | inr t ↦ (
          let own = h.own in
          let apart = t.1 in
          tells.others (other - 1) (λ same. apart (omega (arith, same, own, p.0)))
          ∙ sym (none_counted other t.1 (done_so_far site kept (Kept false ∷ before))))
    ];
    counters = ap (λ (k : Retained). k.counters) keeps;
  }
    where
      own_noted : slice_index since (panel - 1) ≡ counted_entries site kept (done_so_far site kept (Kept false ∷ before)) panel (Kept false ∷ before)
      own_noted =
          let p = h.parts.member in
          let own = h.own in
          tells.own (panel - 1) (omega (arith, own, p.0)) site kept panel (applied site kept before) (hold_turns site kept (applied site kept before) told panel before)
          h.parts.holds
          ∙ counted_by_keep site kept panel before told h.valid run p

  pub noted : (failed : Bool) (desk : Desk) (since : List ℕ) (journal : Journal) → TellsOwnEntries node since → IsRun site.panels (Kept failed ∷ before)
      → journal.kept ≡ kept_after site kept (Kept failed ∷ before)
      → (DesksFor site kept before node.desk → MayTakeKeepTurn site failed before → DesksFor site kept (Kept failed ∷ before) desk)
      → NodeStandsFor site panel kept (Befell (Kept failed) ∷ history) (record node { desk = desk; counts = counts_kept failed since journal.kept node.counts })
  noted true desk since journal tells turned keeps takes =
      stands_kept true desk node.counts (takes h.desk (keep_may true turned)) (counts_stay site kept before (Kept true) node.counts (λ e. cc) h.counts)
  noted false desk since journal tells turned keeps takes =
      stands_kept false desk (record { entries = since; counters = journal.kept.counters }) (takes h.desk (keep_may false turned))
      (counts_noted since journal tells keeps)
