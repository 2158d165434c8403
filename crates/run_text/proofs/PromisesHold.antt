-- A run keeps the promises at the end of each of its ticks.
use Rattle.std.proofs.Common.{ℕ, List, [], ◌∷◌, ◌++◌, subst}
use Rattle.site_types.specs.declared.retained.Retained.{Retained}
use Rattle.site_types.specs.declared.site.Site.{Site}
use Rattle.site_types.specs.Valid.{IsValid}
use Rattle.panel_rules.specs.Batches.{kept_after}
use Rattle.panel_rules.specs.Moments.{TickBlock, moments}
use Rattle.panel_rules.specs.Records.{AreOrdered}
use Rattle.panel_rules.proofs.RecordRuns.{records_are_runs}
use Rattle.panel_laws.specs.FaceLaws.{HasEnded}
use Rattle.panel_laws.proofs.DoneKept.{done_kept}
use Rattle.panel_laws.proofs.FacesShow.{due_zone_shown, shown_zone_caused, due_output_shown, shown_output_caused}
use Rattle.run_text.specs.RunPromises.{HoldsPromises, PromisesAreKept, done_by}

-- the earlier of ordered ticks are ordered
pub ordered_behind : (panels : ℕ) (later earlier : List TickBlock) → AreOrdered panels (later ++ earlier) → AreOrdered panels earlier
ordered_behind panels [] earlier h = h
ordered_behind panels (tick ∷ later) earlier h = ordered_behind panels later earlier h.0

-- the last of ordered ticks has ended
pub ended : (site : Site) (ticks : List TickBlock) → IsValid site → AreOrdered site.panels ticks → HasEnded site (moments ticks)
ended site ticks valid ordered =
    let runs = records_are_runs site.panels ticks ordered in record { valid = valid; run = runs.0; ended = runs.1 }

holds : (site : Site) (kept : Retained) (ticks : List TickBlock) → IsValid site → AreOrdered site.panels ticks → HoldsPromises site kept (moments ticks)
holds site kept ticks valid ordered =
    let m = moments ticks in
    let done = done_by site kept m in
    let stored = kept_after site kept m in
    let after = ended site ticks valid ordered in
    record {
      zone = λ panel place plan p is due. due_zone_shown site kept done stored m place plan panel after p is due;
      zone_cause = λ panel place plan p is shown. shown_zone_caused site kept done stored m place plan panel after p is shown;
      output = λ place plan is due. due_output_shown site kept done stored m place plan after is due;
      output_cause = λ place plan is shown. shown_output_caused site kept done stored m place plan after is shown;
      acknowledged = λ place answered change is done makes. done_kept site kept m place answered change is done makes;
    }

pub are_kept : PromisesAreKept
are_kept site kept ticks valid ordered =
    record {
      each = λ later earlier e. holds site kept earlier valid (ordered_behind site.panels later earlier (subst (AreOrdered site.panels) e ordered));
    }
