-- The timeline of a run is in form: a face for each panel, which holds only things of the site; steps that
-- rise and tell something; answers by number.
use Rattle.std.specs.Prelude.{◌≡◌, ◌≢◌, ◌⊎◌, ◌≤◌, ◌<◌, ◌+◌, ◌-◌, ◌^◌, ℕ, true, List, length, Some, slice_get}
use Rattle.site_types.specs.declared.retained.Retained.{Retained}
use Rattle.site_types.specs.declared.site.Site.{Site}
use Rattle.site_types.specs.Changes.{AreCounters}
use Rattle.site_types.specs.Limits.{greatest_count}
use Rattle.site_types.specs.Valid.{IsValid}
use Rattle.face_text.specs.declared.face.Face.{Face}
use Rattle.face_text.specs.Timelines.{AreAnswers, HasAnswer, IsInForm, of_site}
use Rattle.panel_rules.specs.Moments.{Moment, IsRun, IsPanel, up_to}
use Rattle.panel_laws.specs.OperationLaws.{AreOfSite}
use Rattle.panel_rules.specs.Timeline.{face_of, faces_of, is_told, step_of, text_of_run, timeline_of}

-- there is one face for each panel, in the order of panels
abbrev pub FacesAreByPanel : Type 0
FacesAreByPanel =
    (site : Site) (kept : Retained) (moments : List Moment) →
    (length (faces_of site kept moments) ≡ site.panels)
    × ((place : ℕ) (face : Face) → slice_get (faces_of site kept moments) place ≡ Some face
    → face.panel ≡ place + 1)

-- the face of a panel of the site holds only things of the site
abbrev pub FacesAreOfSite : Type 0
FacesAreOfSite = (site : Site) (kept : Retained) (moments : List Moment) (panel : ℕ)
    → IsPanel site.panels panel
    → face_of site kept panel moments ≡ of_site site (face_of site kept panel moments)

-- no counter that is shown goes past its end
abbrev pub CountersHaveAnEnd : Type 0
CountersHaveAnEnd = (site : Site) (kept : Retained) (moments : List Moment) (panel : ℕ)
    → AreCounters kept.counters → (face_of site kept panel moments).counter ≤ greatest_count

-- a run of a valid site that can be told: its operations are of the site, no counter is past its end at
-- opening, and fewer than 2^64 moments befell, so that each number of it goes into a text
pub record CanBeTold (site : Site) (kept : Retained) (moments : List Moment) : Type 0 where
  pub valid : IsValid site
  pub run : IsRun site.panels moments
  pub of_site : AreOfSite site moments
  pub counters : AreCounters kept.counters
  pub few : length moments < 2 ^ 64

-- the answers of a tick rise by number, at most 64 are told by number, an operation was denied at level 2 to
-- 4 with a lower one, and only panels of the site are busy
abbrev pub AnswersRise : Type 0
AnswersRise = (site : Site) (kept : Retained) (moments : List Moment) → CanBeTold site kept moments
    → AreAnswers site (step_of site kept moments).answers

-- a tick that is told changed a face, or has an answer
abbrev pub ToldTicksTell : Type 0
ToldTicksTell =
    (site : Site) (kept : Retained) (moments : List Moment) (tick : ℕ) → CanBeTold site kept moments
    → is_told site kept moments tick ≡ true
    → (faces_of site kept (up_to tick moments) ≢ faces_of site kept (up_to (tick - 1) moments))
    ⊎ HasAnswer (step_of site kept (up_to tick moments)).answers

-- the timeline of such a run is in form
abbrev pub TimelineIsInForm : Type 0
TimelineIsInForm = (site : Site) (kept : Retained) (moments : List Moment) → CanBeTold site kept moments
    → IsInForm site (timeline_of site kept moments)

-- the text of such a run tells its timeline: two runs of a site that have one text have one timeline
abbrev pub TextsTellTimelines : Type 0
TextsTellTimelines =
    (site : Site) (kept other_kept : Retained) (moments others : List Moment)
    → CanBeTold site kept moments → CanBeTold site other_kept others
    → text_of_run site kept moments ≡ text_of_run site other_kept others
    → timeline_of site kept moments ≡ timeline_of site other_kept others
