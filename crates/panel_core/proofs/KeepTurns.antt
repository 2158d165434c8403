-- A turn of Keep: what is left to keep is the batch of the rules, and what its answer makes of the journal and the system.
use Rattle.std.proofs.Common.{◌≡◌, ◌≢◌, ℕ, zero, suc, ◌+◌, ◌-◌, ◌<◌, ◌≤◌, List, [], ◌∷◌, ◌++◌, length, replicate, Some, slice_get, Bool, true, false, inl, inr, refl, sym, ◌∙◌, ap, subst, arith}
use Rattle.std.specs.Prelude.{◌==◌, slice_index}
use Rattle.std.specs.List.{flat_map, range_with_len}
use Rattle.std.proofs.lemmas.Bool.{eqb-true}
use Rattle.tick_units.specs.Ticks.{last_tick}
use Rattle.site_types.specs.declared.change.Change.{Change}
use Rattle.site_types.specs.declared.retained.Retained.{Retained}
use Rattle.site_types.specs.declared.site.Site.{Site}
use Rattle.site_types.specs.Changes.{changed_by}
use Rattle.retained_journal.specs.declared.journal.Journal.{Journal}
use Rattle.retained_journal.proofs.Calls.{same_batch}
use Rattle.retained_journal.proofs.NewFiles.{zeros_everywhere}
use Rattle.keep_turn.specs.declared.store.Store.{Store}
use Rattle.keep_turn.specs.declared.store.Store.TheVariants.{Idle, Kept as WasKept, Failed}
use Rattle.keep_turn.specs.Turns.{AnswersTurn, MakesTurn, MayCommit}
use Rattle.keep_batch.specs.Making.{MayMake, batch_from, count_from}
use Rattle.keep_batch.specs.MakingLaws.{IsLeftToKeep}
use Rattle.keep_batch.proofs.Committing.{batch_may_be_committed}
use Rattle.keep_batch.proofs.Making.{batch_is, batch_may_be_made}
use Rattle.operation_desk.specs.declared.desk.Desk.{Desk}
use Rattle.operation_desk.specs.declared.request.Request.{Request}
use Rattle.operation_desk.specs.Requests.{requests_from}
use Rattle.operation_desk.specs.Stands.{DesksFor, MayTakeKeepTurn}
use Rattle.hold_calls.specs.Told.{told_in_ring}
use Rattle.panel_laws.specs.TimelineLaws.{counted_entries}
use Rattle.panel_laws.proofs.EventsOfSite.{of_site}
use Rattle.panel_rules.specs.Batches.{batch, kept_after, new_entries}
use Rattle.panel_rules.specs.Operations.{operations}
use Rattle.panel_rules.specs.Moments.{Moment, Kept, IsPanel, IsRun, tick_of}
use Rattle.panel_rules.specs.Storing.{keep_answer}
use Rattle.panel_parts.specs.declared.kept_counts.KeptCounts.{KeptCounts}
use Rattle.panel_parts.specs.declared.parts.Parts.{Parts}
use Rattle.panel_core.specs.declared.system.System.{System}
use Rattle.panel_parts.specs.Applied.{applied, done_so_far}
use Rattle.panel_parts.specs.Entries.{AreLeft, CountsFor, TellsEntries, counts_kept}
use Rattle.panel_core.specs.Keeping.{HasKeptAll, KeepsRun, has_failed, store_of}
use Rattle.panel_core.specs.PowerCuts.{IsLeftOver}
use Rattle.panel_core.specs.Stands.{StandsFor}
use Rattle.hold_calls.specs.Turns.{ring_turns}
use Rattle.panel_parts.proofs.Counts.{counts_stay}
use Rattle.panel_core.proofs.DeskTurns.{keep_turn}
use Rattle.panel_parts.proofs.EntriesKept.{counted_by_keep, left_to_keep}
use Rattle.panel_core.proofs.Fronts.{left_over_failed}
use Rattle.panel_core.proofs.Whole.{panel_at}

not_both : true ≡ false → ⊥
not_both e = cc

-- an item within a list
record ItemAt {X : Type 0} (k : ℕ) (xs : List X) : Type 0 where
  item : X
  is : slice_get xs k ≡ Some item

item_at : {X : Type 0} (k : ℕ) (xs : List X) → k < length xs → ItemAt k xs
item_at k [] less = absurd (omega (arith, less))
item_at zero (x ∷ xs) less = record { item = x; is = refl }
item_at (suc k) (x ∷ xs) less = let there = item_at k xs (omega (arith, less)) in record { item = there.item; is = there.is }

-- ---- what is left to keep

module _ (site : Site) (kept : Retained) (before : List Moment) (system : System) (h : StandsFor site kept before system) (run :
    IsRun site.panels before) (few : tick_of before ≤ last_tick) (entries left : List ℕ) (told : TellsEntries system.panels.items entries)
    (less : AreLeft entries system.counts.entries left) where
  -- of one panel
  entered : (panel : ℕ) (p : IsPanel site.panels panel) (parts : Parts) → slice_get system.panels.items (panel - 1) ≡ Some parts
      → slice_index left (panel - 1) ≡ length (new_entries site kept (operations site kept before).done panel before)
  entered panel p parts is =
      let eight = h.valid.forms.panels.1 in
      let counted = told (panel - 1) parts is site kept panel (applied site kept before) (ring_turns site kept (applied site kept before) panel before)
      (panel_at site kept before system panel parts h p.0 is).holds in
      less (panel - 1) (omega (arith, p.0, p.1, eight))
      ∙ ap (λ n. n - slice_index system.counts.entries (panel - 1)) counted
      ∙ left_to_keep site kept panel before (told_in_ring site kept (applied site kept before) panel) h.valid run p (slice_index system.counts.entries (panel - 1)) (h.counts.counted panel p)

  pub is_left : (waiting : List Request) → waiting ≡ system.desk.waiting.items → IsLeftToKeep site kept before left waiting
  is_left waiting same = record {
    entered = λ panel p. (
        let count = h.count in
        let within : panel - 1 < length system.panels.items = omega (arith, p.0, p.1, count) in
        let parts = item_at (panel - 1) system.panels.items within in
        entered panel p parts.item parts.is);
    waits = ap requests_from same ∙ h.desk.outcomes.unsettled.waiting_is;
  }

  pub may_make : (waiting : List Request) → waiting ≡ system.desk.waiting.items → MayMake system.site left waiting
  may_make waiting same =
      subst (λ s. MayMake s left waiting) (sym h.same)
      (batch_may_be_made site kept before left waiting h.valid run (of_site site before h.events) few (is_left waiting same))

  pub left_batch : (waiting : List Request) → waiting ≡ system.desk.waiting.items → batch_from system.site left waiting ≡ batch site kept before
  left_batch waiting same =
      ap (λ s. batch_from s left waiting) h.same ∙ batch_is site kept before left waiting (is_left waiting same)

-- where no entries are left and no request waits, it is nothing
none_left : (site : Site) (left : List ℕ) (waiting : List Request) → left ≡ replicate 8 0 → (length waiting == 0) ≡ true
    → batch_from site left waiting ≡ []
none_left site left (request ∷ waiting) none idle =
    absurd (let some = eqb-true (length (request ∷ waiting)) 0 idle in omega (arith, some))
none_left site left [] none idle = rw (none) (ap (λ xs. xs ++ []) (go 1 site.panels))
  where
    go : (first many : ℕ)
        → flat_map (λ panel. count_from panel (slice_index (replicate 8 0) (panel - 1))) (range_with_len first many) ≡ []
    go first zero = refl
    go first (suc many) =
        ap (λ xs. xs ++ flat_map (λ panel. count_from panel (slice_index (replicate 8 0) (panel - 1))) (range_with_len (first + 1) many))
        (ap (count_from first) (zeros_everywhere 8 (first - 1)))
        ∙ go (first + 1) many

-- of entries that are kept none are left
none_kept : (entries : List ℕ) → AreLeft entries entries (replicate 8 0)
none_kept entries k small = zeros_everywhere 8 k ∙ sym (none_more (slice_index entries k))
  where
    none_more : (a : ℕ) → a - a ≡ 0
    none_more a = omega arith

-- where all is kept a turn with nothing to commit is one with the batch of the rules
module _ {D : Type 0} {honest : D → Type 0} {images : D → List ℕ → Type 0} {moment : D → ℕ} {left_since : D → ℕ → List ℕ → Type 0}
    {faults : D → ℕ} {disk disk' : D} {old new : Journal} {store : Store} where
  pub made_nothing : (site : Site) (kept : Retained) (before : List Moment) (system : System) → StandsFor site kept before system
      → IsRun site.panels before → tick_of before ≤ last_tick → HasKeptAll system
      → MakesTurn honest images moment left_since faults disk disk' [] old store new
      → MakesTurn honest images moment left_since faults disk disk' (batch site kept before) old store new
  made_nothing site kept before system h run few all =
      let left = replicate 8 0 in
      let waiting = system.desk.waiting.items in
      subst (λ changes. MakesTurn honest images moment left_since faults disk disk' changes old store new)
      (sym (none_left system.site left waiting refl (ap (λ (ws : List Request). length ws == 0) all.waits))
      ∙ left_batch site kept before system h run few system.counts.entries left all.entries (none_kept system.counts.entries) waiting refl)

-- and the journal can keep it
pub can_commit : (site : Site) (kept : Retained) (before : List Moment) (system : System) (journal : Journal) (changes : List Change)
    → StandsFor site kept before system → KeepsRun site kept before journal → IsRun site.panels before → changes ≡ batch site kept before
    → MayCommit journal.wide changes
can_commit site kept before system journal changes h keeps run is =
    rw (keeps.wide, is) (batch_may_be_committed site kept before h.valid run (of_site site before h.events))

-- ---- what the answer of its turn says

module _ (site : Site) (kept : Retained) (before : List Moment) (old new : Journal) where
  pub keeps_by : (store : Store) → old.kept ≡ kept_after site kept before → AnswersTurn (batch site kept before) old store new
      → new.kept ≡ kept_after site kept (Kept (has_failed store) ∷ before)
  keeps_by Idle h a = a.1 ∙ h ∙ sym (ap (λ xs. changed_by xs (kept_after site kept before)) a.0)
  keeps_by WasKept h a = a.1 ∙ ap (changed_by (batch site kept before)) h
  keeps_by Failed h a = a.0 ∙ h

  pub answers_by : (store : Store) → AnswersTurn (batch site kept before) old store new
      → store ≡ store_of (keep_answer (has_failed store) (batch site kept before))
  answers_by Idle a = rw a.0 refl
  answers_by WasKept a = some (batch site kept before) a.0
    where
      some : (changes : List Change) → changes ≢ [] → WasKept ≡ store_of (keep_answer false changes)
      some [] apart = absurd (apart refl)
      some (change ∷ changes) apart = refl
  answers_by Failed a = refl

  -- where it is torn, the batch last attempted is that of this turn, or one that might be left before
  pub torn_by : (store : Store) → (old.torn ≡ true → IsLeftOver site kept before old.attempt.items)
      → AnswersTurn (batch site kept before) old store new → new.torn ≡ true
      → IsLeftOver site kept (Kept (has_failed store) ∷ before) new.attempt.items
  torn_by Idle h a torn = absurd (not_both (sym torn ∙ a.2))
  torn_by WasKept h a torn = absurd (not_both (sym torn ∙ a.2))
  torn_by Failed h a torn = elim a.2 [
    | inl is ↦ inr (inl is)
    | inr same ↦
        subst (IsLeftOver site kept (Kept true ∷ before)) (sym (same_batch old new same.1))
        (left_over_failed site kept old.attempt.items before (h same.0))
  ]

-- ---- what is kept after it

module _ (site : Site) (kept : Retained) (before : List Moment) (system : System) (h : StandsFor site kept before system) (run :
    IsRun site.panels before) where
  -- all entries, where it didn't fail
  pub counts_noted : (entries : List ℕ) (journal : Journal) → TellsEntries system.panels.items entries
      → journal.kept ≡ kept_after site kept (Kept false ∷ before)
      → CountsFor site kept (Kept false ∷ before) (record { entries = entries; counters = journal.kept.counters })
  counts_noted entries journal told keeps = record {
    counted = λ panel p. (
        let count = h.count in
        let within : panel - 1 < length system.panels.items = omega (arith, p.0, p.1, count) in
        let parts = item_at (panel - 1) system.panels.items within in
        noted panel p parts.item parts.is);
    counters = ap (λ (k : Retained). k.counters) keeps;
  }
    where
      noted : (panel : ℕ) (p : IsPanel site.panels panel) (parts : Parts) → slice_get system.panels.items (panel - 1) ≡ Some parts
          → slice_index entries (panel - 1) ≡ counted_entries site kept (done_so_far site kept (Kept false ∷ before)) panel (Kept false ∷ before)
      noted panel p parts is =
          told (panel - 1) parts is site kept panel (applied site kept before) (ring_turns site kept (applied site kept before) panel before)
          (panel_at site kept before system panel parts h p.0 is).holds
          ∙ counted_by_keep site kept panel before (told_in_ring site kept (applied site kept before) panel) h.valid run p

  pub noted : (failed : Bool) (desk : Desk) (entries : List ℕ) (journal : Journal) → TellsEntries system.panels.items entries
      → IsRun site.panels (Kept failed ∷ before) → journal.kept ≡ kept_after site kept (Kept failed ∷ before)
      → (DesksFor site kept before system.desk → MayTakeKeepTurn site failed before → DesksFor site kept (Kept failed ∷ before) desk)
      → StandsFor site kept (Kept failed ∷ before) (record system { desk = desk; counts = counts_kept failed entries journal.kept system.counts })
  noted true desk entries journal told turned keeps takes =
      keep_turn site kept before system h true desk system.counts turned takes (counts_stay site kept before (Kept true) system.counts (λ e. cc) h.counts)
  noted false desk entries journal told turned keeps takes =
      keep_turn site kept before system h false desk (record { entries = entries; counters = journal.kept.counters }) turned takes
      (counts_noted entries journal told keeps)

-- where nothing was to be committed, what is kept of the counts stays
counts_as_kept : (store : Store) (counts : KeptCounts) (old new : Journal) → AnswersTurn [] old store new
    → counts.counters ≡ old.kept.counters → counts_kept (has_failed store) counts.entries new.kept counts ≡ counts
counts_as_kept Idle counts old new a same =
    ap (λ cs. record counts { counters = cs }) (ap (λ (k : Retained). k.counters) a.1 ∙ sym same)
counts_as_kept WasKept counts old new a same = absurd (a.0 refl)
counts_as_kept Failed counts old new a same = refl

-- so the desk alone changes
pub kept_nothing : (site : Site) (kept : Retained) (before : List Moment) (system : System) → StandsFor site kept before system
    → IsRun site.panels before → HasKeptAll system → (store : Store) (old new : Journal) (desk : Desk) → AnswersTurn [] old store new
    → old.kept ≡ kept_after site kept before → new.kept ≡ kept_after site kept (Kept (has_failed store) ∷ before)
    → IsRun site.panels (Kept (has_failed store) ∷ before)
    → (DesksFor site kept before system.desk → MayTakeKeepTurn site (has_failed store) before → DesksFor site kept (Kept (has_failed store) ∷ before) desk)
    → StandsFor site kept (Kept (has_failed store) ∷ before) (record system { desk = desk })
kept_nothing site kept before system h run all store old new desk turned then now may takes =
    subst (λ counts. StandsFor site kept (Kept (has_failed store) ∷ before) (record system { desk = desk; counts = counts }))
    (counts_as_kept store system.counts old new turned (h.counts.counters ∙ ap (λ (k : Retained). k.counters) (sym then)))
    (noted site kept before system h run (has_failed store) desk system.counts.entries new all.entries may now takes)
