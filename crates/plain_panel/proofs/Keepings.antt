-- What is kept, a moment later.
use Rattle.std.proofs.Common.{◌≡◌, ◌∙◌, ◌+◌, ◌<◌, ◌≤◌, ◌==◌, ℕ, suc, Bool, true, false, List, [], ◌∷◌, ◌++◌, length, get_or, take, Result, Ok, Err, ap, arith, refl, sym}
use Rattle.std.specs.Prelude.{OnOk, if◌then◌else◌}
use Rattle.std.specs.List.{flat_map, range_with_len}
use Rattle.std.proofs.lemmas.Bool.Decides.{nat_tests}
use Rattle.site_types.specs.declared.change.Change.{Change}
use Rattle.site_types.specs.declared.change.Change.TheVariants.{Count}
use Rattle.site_types.specs.declared.retained.Retained.{Retained}
use Rattle.site_types.specs.declared.site.Site.{Site}
use Rattle.site_types.specs.Changes.{changed_by}
use Rattle.site_types.specs.Done.{Done}
use Rattle.site_types.proofs.Changes.{changed_by-append}
use Rattle.face_text.proofs.Listing.{items_more}
use Rattle.panel_rules.specs.Batches.{changes_of, count_of, counts, kept_after, new_entries}
use Rattle.panel_rules.specs.Moments.{Moment, Began, Happened, Turned, Kept}
use Rattle.panel_rules.specs.Operations.{Operations, Request, operations}
use Rattle.plain_words.specs.declared.entering.Entering.{Entering}
use Rattle.plain_panel.specs.declared.keeping.Keeping.{Keeping}
use Rattle.plain_operations.specs.Desks.{StandsForDesk, all_requests}
use Rattle.plain_words.specs.Enterings.{AllEnter}
use Rattle.plain_panel.specs.Keepings.{AllPlaced, StandsForKeeping, all_counted, counted, is_storing}
use Rattle.plain_panel.specs.SiteStates.{StandsForSite}

-- the entries of one panel more are counted
pub counted_more : (panels : List Entering) (k : ℕ) (one d : Entering) (stored before after : Retained) → k < length panels
    → one ≡ get_or panels k d →
    before ≡ changed_by (all_counted (take k panels)) stored → after ≡ changed_by (counted one) before
    → after ≡ changed_by (all_counted (take (k + 1) panels)) stored
counted_more panels k one d stored before after small is was then_is =
    then_is ∙ ap (λ e. changed_by (counted e) before) is ∙ ap (λ s. changed_by (counted (get_or panels k d)) s) was
    ∙ sym (changed_by-append (all_counted (take k panels)) (counted (get_or panels k d)) stored)
    ∙ sym (ap (λ changes. changed_by changes stored) (items_more counted panels k d small))

pub all_placed : (site : Site) (kept : Retained) (done : List Done) (history : List Moment) (first : ℕ) (panels : List Entering)
    → AllEnter site kept done history first panels → 1 ≤ first → first + length panels ≤ 9 → AllPlaced panels
all_placed site kept done history first [] all above below = tt
all_placed site kept done history first (x ∷ xs) all above below =
    let own : x.panel ≡ first = (all.0).own in
    let least : 1 ≤ x.panel = omega (arith, own) in
    let most : x.panel ≤ 8 = omega (arith, own) in
    let next : 1 ≤ first + 1 = omega arith in
    let rest : (first + 1) + length xs ≤ 9 = omega arith in
    ((least, most), all_placed site kept done history (first + 1) xs (all.1) next rest)

not_none : (n : ℕ) → (suc n == 0) ≡ false
not_none n = grind (arith, nat_tests)

count_is : (site : Site) (kept : Retained) (done : List Done) (panel number entries : ℕ) (ticks : List ℕ) → panel ≡ number → entries ≡ length ticks →
    (if entries == 0 then [] else Count panel entries ∷ []) ≡ count_of site kept done number ticks
count_is site kept done panel number entries [] same many = ap (λ (n : ℕ). if n == 0 then [] else Count panel n ∷ []) many
count_is site kept done panel number entries (tick ∷ ticks) same many =
    ap (λ (n : ℕ). if n == 0 then [] else Count panel n ∷ []) many
    ∙ ap (λ (b : Bool). if b then [] else Count panel (length (tick ∷ ticks)) ∷ []) (not_none (length ticks))
    ∙ ap (λ (p : ℕ). Count p (length (tick ∷ ticks)) ∷ []) same

-- what is counted are the counts of the definitions
pub counted_all : (site : Site) (kept : Retained) (done : List Done) (history : List Moment) (first : ℕ) (panels : List Entering)
    → AllEnter site kept done history first panels →
    all_counted panels ≡ flat_map (λ panel. count_of site kept done panel (new_entries site kept done panel history))
    (range_with_len first (length panels))
counted_all site kept done history first [] all = refl
counted_all site kept done history first (x ∷ xs) all =
    ap (λ changes. changes ++ all_counted xs) (count_is site kept done x.panel first x.entries (new_entries site kept done first history)
    ((all.0).own) ((all.0).count))
    ∙ ap (λ changes. count_of site kept done first (new_entries site kept done first history) ++ changes)
    (counted_all site kept done history (first + 1) xs (all.1))

module _ (site : Site) (kept : Retained) (history : List Moment) where
  kept_then : (moment : Moment) (before after : Retained) (waiting : List Request) (changes : List Change) →
      after ≡ (if is_storing moment then changed_by (changes_of site waiting) (changed_by changes before) else before)
      → before ≡ kept_after site kept history →
      waiting ≡ (operations site kept history).waiting → changes ≡ counts site kept (operations site kept history).done history
      → after ≡ kept_after site kept (moment ∷ history)
  kept_then Began before after waiting changes is was same_waiting same_changes = is ∙ was
  kept_then (Happened event) before after waiting changes is was same_waiting same_changes = is ∙ was
  kept_then (Turned panel task) before after waiting changes is was same_waiting same_changes = is ∙ was
  kept_then (Kept true) before after waiting changes is was same_waiting same_changes = is ∙ was
  kept_then (Kept false) before after waiting changes is was same_waiting same_changes =
      is ∙ ap (λ w. changed_by (changes_of site w) (changed_by changes before)) same_waiting
      ∙ ap (λ cs. changed_by (changes_of site (operations site kept history).waiting) (changed_by cs before)) same_changes
      ∙ ap (λ s. changed_by (changes_of site (operations site kept history).waiting) (changed_by (counts site kept (operations site kept history).done history) s)) was
      ∙ sym (changed_by-append (counts site kept (operations site kept history).done history) (changes_of site (operations site kept history).waiting)
      (kept_after site kept history))

  -- the desk and what stands have gone on, and what is to be kept is stored
  pub kept_ok : {T E : Type 0} (result : Result T E) (moment : Moment) (before between after : Keeping) → StandsForKeeping site kept history before →
      between.stored
      ≡ (if is_storing moment then changed_by (changes_of site (all_requests before.desk.outcomes.waiting.items))
      (changed_by (all_counted before.state.panels.items) before.stored) else before.stored) →
      after.stored ≡ between.stored → OnOk result (StandsForDesk site kept (moment ∷ history) after.desk) →
      OnOk result (StandsForSite site kept (operations site kept (moment ∷ history)).done (moment ∷ history) after.state)
      → OnOk result (StandsForKeeping site kept (moment ∷ history) after)
  kept_ok (Ok value) moment before between after stands stored same desk state =
      let many : ℕ → List Change =
      λ n.
      flat_map
      (λ panel. count_of site kept (operations site kept history).done panel
      (new_entries site kept (operations site kept history).done panel history)) (range_with_len 1 n) in
      record {
        desk = desk;
        state = state;
        stored =
            same ∙ kept_then moment before.stored between.stored (all_requests before.desk.outcomes.waiting.items)
            (all_counted before.state.panels.items) stored stands.stored
            (ap (λ (o : Operations). o.waiting) stands.desk.became)
            (counted_all site kept (operations site kept history).done history 1 before.state.panels.items stands.state.panels.all ∙ ap many
            stands.state.panels.count);
      }
  kept_ok (Err error) moment before between after stands stored same desk state = tt
