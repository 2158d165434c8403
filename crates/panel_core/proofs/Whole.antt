-- All panels after a moment: one of them is changed by it, or none, and the others stand for what they stood for.
use Rattle.std.proofs.Common.{◌≡◌, ◌≢◌, ℕ, ◌+◌, ◌-◌, ◌≤◌, List, [], ◌∷◌, ◌++◌, length, length-append, zero, suc, Some, slice_get, inl, inr, Bool, refl, sym, ◌∙◌, ap, subst, arith}
use Rattle.std.specs.Global.{Vec}
use Rattle.std.specs.Vec.{with_item}
use Rattle.std.proofs.Math.ListN.{length-set}
use Rattle.tick_units.specs.declared.task.Task.{Task}
use Rattle.tick_units.specs.declared.task.Task.TheVariants.{Poll, Decide, Supply, Desk as DeskTask, Hold, Link, Effect, Drive, Keep}
use Rattle.site_types.specs.declared.retained.Retained.{Retained}
use Rattle.site_types.specs.declared.site.Site.{Site}
use Rattle.site_types.specs.Done.{Done}
use Rattle.coincidence_rules.proofs.Lists.{get_set}
use Rattle.operation_desk.specs.declared.desk.Desk.{Desk}
use Rattle.operation_desk.specs.Stands.{DesksFor}
use Rattle.hold_calls.specs.Told.{told_in_ring}
use Rattle.panel_laws.specs.OperationLaws.{AreEventsOf}
use Rattle.panel_rules.specs.Moments.{Moment, Turned, Kept, tick_of}
use Rattle.panel_rules.proofs.Places.{get_either}
use Rattle.panel_parts.specs.declared.kept_counts.KeptCounts.{KeptCounts}
use Rattle.panel_parts.specs.declared.parts.Parts.{Parts}
use Rattle.panel_core.specs.declared.system.System.{System}
use Rattle.panel_parts.specs.Applied.{applied}
use Rattle.panel_parts.specs.Entries.{CountsFor}
use Rattle.panel_links.specs.declared.ring.Ring.{Ring}
use Rattle.panel_core.specs.Stands.{KeepsWords, StandsFor, StandsInRing}
use Rattle.panel_parts.proofs.Applied.{applied_stays, settings_stay}
use Rattle.panel_parts.proofs.Counts.{counts_stay}
use Rattle.panel_parts.proofs.Panels.{after_elsewhere, after_keep, others_stay}

module _ (site : Site) (kept : Retained) (before : List Moment) (system : System) (moment : Moment) (desk : Desk) (counts :
    KeptCounts) (ring : Ring) (same_tick : tick_of (moment ∷ before) ≡ tick_of before) (events : AreEventsOf site (moment ∷ before))
    (desks : DesksFor site kept (moment ∷ before) desk) (counted : CountsFor site kept (moment ∷ before) counts)
    (rings : KeepsWords site kept (applied site kept before) (moment ∷ before) ring) (h : StandsFor site kept before system) where
  words_kept : KeepsWords site kept (applied site kept (moment ∷ before)) (moment ∷ before) ring
  words_kept = subst (λ done. KeepsWords site kept done (moment ∷ before) ring) (applied_stays site kept moment before same_tick) rings

  -- with what was done before this tick a panel stands for the moment more
  abbrev StandsMore : ℕ → Parts → Type 0
  StandsMore panel parts = StandsInRing site kept (applied site kept before) panel (moment ∷ before) parts

  more_is : (panel : ℕ) (parts : Parts) → StandsMore panel parts → StandsInRing site kept (applied site kept (moment ∷ before)) panel (moment ∷ before) parts
  more_is panel parts p =
      subst (λ done. StandsInRing site kept done panel (moment ∷ before) parts) (applied_stays site kept moment before same_tick) p

  abbrev StoodBefore : ℕ → Parts → Type 0
  StoodBefore panel parts = StandsInRing site kept (applied site kept before) panel before parts

  -- with panels that stand for the moment more
  stands_with : (panels : Vec Parts) → length panels.items ≡ site.panels
      → ((place : ℕ) (q : Parts) → slice_get panels.items place ≡ Some q → StandsMore (place + 1) q)
      → StandsFor site kept (moment ∷ before) (record system { panels = panels; ring = ring; desk = desk; counts = counts })
  stands_with panels count each = record {
    valid = h.valid;
    same = h.same;
    plan = h.plan;
    tick = h.tick ∙ sym same_tick;
    count = count;
    each = λ place q is. more_is (place + 1) q (each place q is);
    ring = words_kept;
    events = events;
    desk = desks;
    settings = settings_stay site kept moment before system.settings same_tick h.settings;
    sized = h.sized;
    own = h.own;
    counts = counted;
  }

  -- at a moment of one panel
  pub stands_changed : (panel : ℕ) (parts : Parts) → 1 ≤ panel → StandsMore panel parts
      → ((other : ℕ) (q : Parts) → panel ≢ other → StoodBefore other q → StandsMore other q)
      → StandsFor site kept (moment ∷ before) (record system { panels = with_item system.panels (panel - 1) parts; ring = ring; desk = desk; counts = counts })
  stands_changed panel parts one p others =
      stands_with (with_item system.panels (panel - 1) parts) (length-set system.panels.items (panel - 1) parts ∙ h.count)
      (λ place q is. elim (get_set system.panels.items (panel - 1) place parts q is) [
        | inl g ↦ (let at : panel ≡ place + 1 = omega (arith, g.0) in subst (λ n. StandsMore n q) at (subst (StandsMore panel) g.1 p))
        | inr g ↦ others (place + 1) q (λ e. g.0 (omega (arith, e))) (h.each place q g.1)
      ])

  -- at a moment at which no panel is changed
  pub stands_unchanged : ((panel : ℕ) (q : Parts) → StoodBefore panel q → StandsMore panel q)
      → StandsFor site kept (moment ∷ before) (record system { ring = ring; desk = desk; counts = counts })
  stands_unchanged each = stands_with system.panels h.count (λ place q is. each (place + 1) q (h.each place q is))

-- a turn of another task leaves the desk
module _ (site : Site) (kept : Retained) (before : List Moment) (desk : Desk) (panel : ℕ) (h : DesksFor site kept before desk) where
  desk_left : (task : Task) → task ≢ DeskTask → DesksFor site kept (Turned panel task ∷ before) desk
  desk_left DeskTask other = absurd (other refl)
  desk_left Poll other = record { number = h.number; counts = h.counts; asked = h.asked; outcomes = h.outcomes; busy = h.busy; idle = h.idle; failed = h.failed; sized = h.sized }
  desk_left Decide other = record { number = h.number; counts = h.counts; asked = h.asked; outcomes = h.outcomes; busy = h.busy; idle = h.idle; failed = h.failed; sized = h.sized }
  desk_left Supply other = record { number = h.number; counts = h.counts; asked = h.asked; outcomes = h.outcomes; busy = h.busy; idle = h.idle; failed = h.failed; sized = h.sized }
  desk_left Hold other = record { number = h.number; counts = h.counts; asked = h.asked; outcomes = h.outcomes; busy = h.busy; idle = h.idle; failed = h.failed; sized = h.sized }
  desk_left Link other = record { number = h.number; counts = h.counts; asked = h.asked; outcomes = h.outcomes; busy = h.busy; idle = h.idle; failed = h.failed; sized = h.sized }
  desk_left Effect other = record { number = h.number; counts = h.counts; asked = h.asked; outcomes = h.outcomes; busy = h.busy; idle = h.idle; failed = h.failed; sized = h.sized }
  desk_left Drive other = record { number = h.number; counts = h.counts; asked = h.asked; outcomes = h.outcomes; busy = h.busy; idle = h.idle; failed = h.failed; sized = h.sized }
  desk_left Keep other = record { number = h.number; counts = h.counts; asked = h.asked; outcomes = h.outcomes; busy = h.busy; idle = h.idle; failed = h.failed; sized = h.sized }

-- nor the ring, unless it is Link's
module _ (site : Site) (kept : Retained) (done : List Done) (before : List Moment) (panel : ℕ) (ring : Ring) where
  pub words_left : (task : Task) → task ≢ Link → KeepsWords site kept done before ring → KeepsWords site kept done (Turned panel task ∷ before) ring
  words_left Link other h = absurd (other refl)
  words_left Poll other h = h
  words_left Decide other h = h
  words_left Supply other h = h
  words_left DeskTask other h = h
  words_left Hold other h = h
  words_left Effect other h = h
  words_left Drive other h = h
  words_left Keep other h = h

-- a panel had its turn of another task than Desk and Link
pub stands_after_turn : (site : Site) (kept : Retained) (before : List Moment) (system : System) (panel : ℕ) (task : Task) (parts : Parts)
    → StandsFor site kept before system → 1 ≤ panel → task ≢ DeskTask → task ≢ Link
    → StandsInRing site kept (applied site kept before) panel (Turned panel task ∷ before) parts
    → StandsFor site kept (Turned panel task ∷ before) (record system { panels = with_item system.panels (panel - 1) parts })
stands_after_turn site kept before system panel task parts h one other apart p =
    stands_changed site kept before system (Turned panel task) system.desk system.counts system.ring refl h.events
    (desk_left site kept before system.desk panel h.desk task other) (counts_stay site kept before (Turned panel task) system.counts (λ e. cc) h.counts)
    (words_left site kept (applied site kept before) before panel system.ring task apart h.ring) h panel parts one p
    (λ next q away stood. others_stay site kept (applied site kept before) (told_in_ring site kept (applied site kept before) next) next panel task before q away stood)

-- Desk's turn changes no panel
pub stands_after_desk : (site : Site) (kept : Retained) (before : List Moment) (system : System) (panel : ℕ) (desk : Desk)
    → StandsFor site kept before system → DesksFor site kept (Turned panel DeskTask ∷ before) desk
    → StandsFor site kept (Turned panel DeskTask ∷ before) (record system { desk = desk })
stands_after_desk site kept before system panel desk h desks =
    stands_unchanged site kept before system (Turned panel DeskTask) desk system.counts system.ring refl h.events desks
    (counts_stay site kept before (Turned panel DeskTask) system.counts (λ e. cc) h.counts) h.ring h
    (λ at q stood. after_elsewhere site kept (applied site kept before) (told_in_ring site kept (applied site kept before) at) at panel before q DeskTask (inl refl) stood)

-- nor does Keep's
pub stands_after_keep : (site : Site) (kept : Retained) (before : List Moment) (system : System) (failed : Bool) (desk : Desk) (counts : KeptCounts)
    → StandsFor site kept before system → DesksFor site kept (Kept failed ∷ before) desk → CountsFor site kept (Kept failed ∷ before) counts
    → StandsFor site kept (Kept failed ∷ before) (record system { desk = desk; counts = counts })
stands_after_keep site kept before system failed desk counts h desks counted =
    stands_unchanged site kept before system (Kept failed) desk counts system.ring refl h.events desks counted h.ring h
    (λ panel q stood. after_keep site kept (applied site kept before) (told_in_ring site kept (applied site kept before) panel) panel failed before q stood)

-- Link's turn changes no panel; the ring has what it took
pub stands_after_link : (site : Site) (kept : Retained) (before : List Moment) (system : System) (panel : ℕ) (ring : Ring)
    → StandsFor site kept before system → KeepsWords site kept (applied site kept before) (Turned panel Link ∷ before) ring
    → StandsFor site kept (Turned panel Link ∷ before) (record system { ring = ring })
stands_after_link site kept before system panel ring h rings =
    stands_unchanged site kept before system (Turned panel Link) system.desk system.counts ring refl h.events
    (desk_left site kept before system.desk panel h.desk Link (λ e. cc)) (counts_stay site kept before (Turned panel Link) system.counts (λ e. cc) h.counts)
    rings h (λ at q stood. after_elsewhere site kept (applied site kept before) (told_in_ring site kept (applied site kept before) at) at panel before q Link (inr (inl refl)) stood)

-- the panel at a place
pub panel_at : (site : Site) (kept : Retained) (before : List Moment) (system : System) (panel : ℕ) (parts : Parts)
    → StandsFor site kept before system → 1 ≤ panel → slice_get system.panels.items (panel - 1) ≡ Some parts
    → StandsInRing site kept (applied site kept before) panel before parts
panel_at site kept before system panel parts h one is =
    let at : panel - 1 + 1 ≡ panel = omega arith in
    subst (λ n. StandsInRing site kept (applied site kept before) n before parts) at (h.each (panel - 1) parts is)

-- one panel more
pub panels_counted : (xs ys : List Parts) (x : Parts) (n : ℕ) → ys ≡ xs ++ x ∷ [] → length xs ≡ n → length ys ≡ n + 1
panels_counted xs ys x n e l = let m = ap length e ∙ length-append xs (x ∷ []) in omega (arith, m, l)

-- all that is in a list of one
only_one : {A : Type 0} (x y : A) (k : ℕ) → slice_get (x ∷ []) k ≡ Some y → (k ≡ 0) × (x ≡ y)
only_one x y zero is = (refl, cc)
only_one x y (suc k) is = absurd (cc)

pub panel_added : (site : Site) (kept : Retained) (xs ys : List Parts) (x : Parts) (n : ℕ) → ys ≡ xs ++ x ∷ [] → length xs ≡ n
    → ((place : ℕ) (parts : Parts) → slice_get xs place ≡ Some parts → StandsInRing site kept [] (place + 1) [] parts)
    → StandsInRing site kept [] (n + 1) [] x → (place : ℕ) (parts : Parts) → slice_get ys place ≡ Some parts → StandsInRing site kept [] (place + 1) [] parts
panel_added site kept xs ys x n e l each new place parts is =
    elim (get_either xs (x ∷ []) place parts (sym (ap (λ zs. slice_get zs place) e) ∙ is)) [
      | inl g ↦ each place parts g
      | inr g ↦ last g.place g.far g.is
    ]
  where
    last : (k : ℕ) → place ≡ k + length xs → slice_get (x ∷ []) k ≡ Some parts → StandsInRing site kept [] (place + 1) [] parts
    last k far h =
        let only = only_one x parts k h in
        let first = only.0 in
        let at : n + 1 ≡ place + 1 = omega (arith, far, l, first) in
        subst (λ m. StandsInRing site kept [] m [] parts) at (subst (StandsInRing site kept [] (n + 1) []) only.1 new)
