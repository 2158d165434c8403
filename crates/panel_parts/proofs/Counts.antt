-- What is kept of entries and counters, a moment later.
use Rattle.std.proofs.Common.{◌≡◌, ◌≢◌, List, ◌∷◌, true, false, refl, sym, ◌∙◌, ap}
use Rattle.site_types.specs.declared.retained.Retained.{Retained}
use Rattle.site_types.specs.declared.site.Site.{Site}
use Rattle.panel_rules.specs.Batches.{kept_after}
use Rattle.panel_rules.specs.Moments.{Moment, Began, Happened, Turned, Kept}
use Rattle.panel_parts.specs.declared.kept_counts.KeptCounts.{KeptCounts}
use Rattle.panel_parts.specs.Entries.{CountsFor}
use Rattle.panel_parts.proofs.EntriesKept.{counted_stays}

kept_stays : (site : Site) (kept : Retained) (before : List Moment) (moment : Moment) → moment ≢ Kept false
    → kept_after site kept (moment ∷ before) ≡ kept_after site kept before
kept_stays site kept before Began other = refl
kept_stays site kept before (Happened event) other = refl
kept_stays site kept before (Turned panel task) other = refl
kept_stays site kept before (Kept true) other = refl
kept_stays site kept before (Kept false) other = absurd (other refl)

pub counts_stay : (site : Site) (kept : Retained) (before : List Moment) (moment : Moment) (counts : KeptCounts) → moment ≢ Kept false
    → CountsFor site kept before counts → CountsFor site kept (moment ∷ before) counts
counts_stay site kept before moment counts other h = record {
  counted = λ panel p. h.counted panel p ∙ sym (counted_stays site kept panel before moment other);
  counters = h.counters ∙ ap (λ (k : Retained). k.counters) (sym (kept_stays site kept before moment other));
}
