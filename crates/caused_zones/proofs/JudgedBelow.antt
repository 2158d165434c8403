-- The answers of one point after another are judged.
use Rattle.std.proofs.Common.{◌≡◌, ℕ, ◌+◌, ◌&&◌, ◌||◌, Bool, true, false, List, refl, sym, ◌∙◌, ap}
use Rattle.site_types.specs.declared.site.Site.{Site}
use Rattle.caused_zones.specs.declared.cause.Cause.{Cause}
use Rattle.caused_zones.specs.declared.point_mark.PointMark.{PointMark}
use Rattle.caused_zones.specs.Causes.{cause_with}
use Rattle.caused_zones.specs.Judging.{confirms_by, counts_now, touches}
use Rattle.caused_zones.specs.Marks.{AreEachAfter, passes_below}
use Rattle.caused_zones.proofs.EachAfter.{below_more, each_by, each_then, with_either}

module _ (site : Site) (marks : List PointMark) (now : ℕ) where
  abbrev pub confirms_zone : ℕ → ℕ → Bool
  confirms_zone zone place = counts_now site marks now place && (touches site marks now place zone && confirms_by site marks now zone place)

  abbrev pub alarms_below : ℕ → ℕ → Cause → Cause
  alarms_below count zone cause = cause_with (passes_below (confirms_zone zone) count) cause

  pub one_judged : (count : ℕ) (start mid new : List Cause) → counts_now site marks now count ≡ true → AreEachAfter (alarms_below count) start mid
      → AreEachAfter (λ zone cause. cause_with (touches site marks now count zone && confirms_by site marks now zone count) cause) mid new
      → AreEachAfter (alarms_below (count + 1)) start new
  one_judged count start mid new counts so_far here =
      each_then (alarms_below count) (λ zone cause. cause_with (touches site marks now count zone && confirms_by site marks now zone count) cause)
      (alarms_below (count + 1)) start mid new so_far here
      (λ zone cause.
      with_either (passes_below (confirms_zone zone) count) (touches site marks now count zone && confirms_by site marks now zone count) cause
      ∙ ap (λ b. cause_with (passes_below (confirms_zone zone) count || (b && (touches site marks now count zone && confirms_by site marks now zone count)))
      cause) (sym counts)
      ∙ ap (λ b. cause_with b cause) (sym (below_more (confirms_zone zone) count)))

  pub none_judged : (count : ℕ) (start mid : List Cause) → counts_now site marks now count ≡ false → AreEachAfter (alarms_below count) start mid
      → AreEachAfter (alarms_below (count + 1)) start mid
  none_judged count start mid counts so_far =
      each_by (alarms_below count) (alarms_below (count + 1)) start mid
      (λ zone cause.
      ap (λ b. cause_with b cause) (sym (below_more (confirms_zone zone) count
      ∙ ap (λ b. passes_below (confirms_zone zone) count || (b && (touches site marks now count zone && confirms_by site marks now zone count))) counts
      ∙ or_none (passes_below (confirms_zone zone) count))))
      so_far
    where
      or_none : (a : Bool) → (a || false) ≡ a
      or_none true = refl
      or_none false = refl
