-- The faces of a run: one for each panel, each holding only things of the site, with a counter that has an end.
use Rattle.std.proofs.Common.{◌≡◌, ℕ, zero, suc, ◌+◌, ◌-◌, ◌<◌, ◌==◌, Bool, true, false, List, [], ◌∷◌, Some, slice_get, map, refl, sym, ◌∙◌, ap, subst, arith, if◌then◌else◌}
use Rattle.std.specs.List.{range_with_len}
use Rattle.std.proofs.lemmas.List.FromFn.{length-map-range_with_len}
use Rattle.site_types.specs.declared.change.Change.{Change}
use Rattle.site_types.specs.declared.retained.Retained.{Retained}
use Rattle.site_types.specs.declared.site.Site.{Site}
use Rattle.site_types.specs.declared.word.Word.{Word}
use Rattle.site_types.specs.Changes.{AreCounters, changed, changed_by}
use Rattle.site_types.specs.Done.{Done}
use Rattle.site_types.proofs.Changes.{counters-changed}
use Rattle.face_text.specs.declared.face.Face.{Face}
use Rattle.face_text.specs.Slots.{is_named, zone_name}
use Rattle.face_text.specs.Timelines.{AreFaces, IsFaceOf}
use Rattle.panel_rules.specs.Moments.{Moment, Began, Happened, Turned, Kept, IsPanel}
use Rattle.panel_rules.specs.States.{piece_of}
use Rattle.panel_rules.specs.Kept.{kept_at, made_at}
use Rattle.panel_rules.specs.Words.{kept_word_of, latest_word, word_made}
use Rattle.panel_rules.specs.Run.{faults_with, tells_fault}
use Rattle.panel_rules.specs.Faces.{face_with, shown_word}
use Rattle.panel_rules.specs.Operations.{operations}
use Rattle.panel_rules.specs.Batches.{batch, kept_after}
use Rattle.panel_rules.specs.Timeline.{face_of, faces_of}
use Rattle.panel_laws.specs.FormLaws.{CountersHaveAnEnd, FacesAreByPanel, FacesAreOfSite}
use Rattle.panel_laws.proofs.AnswerLaws.{eq_is}
use Rattle.panel_laws.proofs.NamedMasks.{HasNames, broken_named, links_named, of_nothing, outputs_named, shorted_named, silent_named, supplies_named, zones_named}
use Rattle.panel_laws.proofs.NamedFaces.{AreFaults, IsNamed, named_is}

-- ---- words

-- masks of a word that have only bits of zones of a panel
record AreZones (site : Site) (source : ℕ) (word : Word) : Type 0 where
  alarm : HasNames 32 (λ k. is_named (zone_name site source (1 + k))) word.alarm
  first : HasNames 32 (λ k. is_named (zone_name site source (1 + k))) word.first

module _ (site : Site) (kept : Retained) (done : List Done) where
  made_named : (source : ℕ) (made : List Moment) → AreZones site source (word_made site kept done (tells_fault site kept done) source made)
  made_named source [] =
      record {
        alarm = of_nothing 32 (λ k. is_named (zone_name site source (1 + k)));
        first =
            of_nothing 32 (λ k. is_named (zone_name site source (1 + k)));
      }
  made_named source (moment ∷ before) = record { alarm = zones_named site source _; first = zones_named site source _ }

  shown_named : (panel source : ℕ) (moments : List Moment) → AreZones site source (shown_word site kept done panel moments source)
  shown_named panel source moments = by_own (source == panel) (eq_is source panel)
    where
      by_own : (b : Bool) → (b ≡ true → source ≡ panel) →
          AreZones site source (if b then latest_word site kept done (tells_fault site kept done) panel moments else kept_word_of site kept done
          (tells_fault site kept done) panel source moments)
      by_own true e =
          subst (λ s. AreZones site s (latest_word site kept done (tells_fault site kept done) panel moments)) (sym (e refl))
          (made_named panel (made_at panel moments))
      by_own false e = made_named source (kept_at site.panels panel source moments)

  -- ---- faults

  faults_named : (panel : ℕ) (made : List Moment) → IsPanel site.panels panel
      → AreFaults site panel (faults_with site kept done (tells_fault site kept done) panel made)
  faults_named panel made own =
      record {
        missing = record { test = _; is = refl };
        broken = broken_named site panel (λ line piece. piece_of panel line piece made);
        shorted = shorted_named site panel (λ line piece. piece_of panel line piece made);
        supply = supplies_named _;
        silent = silent_named site _;
        links = links_named site panel _ own;
        unconfirmed = outputs_named site panel _;
      }

  -- ---- faces

  face_named : (stored : Retained) (panel : ℕ) (moments : List Moment) → IsPanel site.panels panel
      → IsNamed site (face_with site kept done stored panel moments)
  face_named stored panel moments own =
      record {
        zones = record {
          mask = λ source. (shown_word site kept done panel moments source).alarm;
          is = refl;
          named =
              λ source. (shown_named panel source moments).alarm;
        };
        firsts = record {
          mask = λ source. (shown_word site kept done panel moments source).first;
          is = refl;
          named =
              λ source. (shown_named panel source moments).first;
        };
        faults = faults_named panel (made_at panel moments) own;
        outputs = outputs_named site panel _;
        confirmed = outputs_named site panel _;
        points_off = record { test = _; is = refl };
        zones_off = zones_named site panel _;
        outputs_off = outputs_named site panel _;
        test = zones_named site panel _;
      }

pub of_the_site : FacesAreOfSite
of_the_site site kept moments panel own =
    named_is site (face_of site kept panel moments) (face_named site kept (operations site kept moments).done (kept_after site kept moments) panel
    moments own)

-- ---- counters

counters_changed : (changes : List Change) (kept : Retained) → AreCounters kept.counters → AreCounters (changed_by changes kept).counters
counters_changed [] kept h = h
counters_changed (change ∷ changes) kept h = counters_changed changes (changed change kept) (counters-changed change kept h)

counters_after : (site : Site) (kept : Retained) (moments : List Moment) → AreCounters kept.counters
    → AreCounters (kept_after site kept moments).counters
counters_after site kept [] h = h
counters_after site kept (Began ∷ before) h = counters_after site kept before h
counters_after site kept (Happened event ∷ before) h = counters_after site kept before h
counters_after site kept (Turned panel task ∷ before) h = counters_after site kept before h
counters_after site kept (Kept true ∷ before) h = counters_after site kept before h
counters_after site kept (Kept false ∷ before) h =
    counters_changed (batch site kept before) (kept_after site kept before) (counters_after site kept before h)

pub counter_ends : CountersHaveAnEnd
counter_ends site kept moments panel h = counters_after site kept moments h (panel - 1)

-- ---- all of them

-- what an item of a list made by numbers is
made_at_place : {X : Type 0} (f : ℕ → X) (a n k : ℕ) (x : X) → slice_get (map f (range_with_len a n)) k ≡ Some x → (k < n) × (x ≡ f (a + k))
made_at_place f a zero k x h = cc
made_at_place f a (suc n) zero x h = (omega arith, (let e : x ≡ f a = cc in e ∙ ap f (omega arith)))
made_at_place f a (suc n) (suc k) x h = let g = made_at_place f (a + 1) n k x h in (omega (arith, g.0), g.1 ∙ ap f (omega arith))

pub by_panel : FacesAreByPanel
by_panel site kept moments = (
  length-map-range_with_len (λ panel. face_of site kept panel moments) 1 site.panels,
  λ place face is. (let h = made_at_place (λ panel. face_of site kept panel moments) 1 site.panels place face is in
      ap (λ (f : Face). f.panel) h.1 ∙ omega arith),
)

pub faces_in_form : (site : Site) (kept : Retained) (moments : List Moment) → AreCounters kept.counters → AreFaces site (faces_of site kept moments)
faces_in_form site kept moments counters =
    record {
      count = length-map-range_with_len (λ panel. face_of site kept panel moments) 1 site.panels;
      each = λ place face is. each place face (made_at_place (λ panel. face_of site kept panel moments) 1 site.panels place face is);
    }
  where
    each : (place : ℕ) (face : Face) → (place < site.panels) × (face ≡ face_of site kept (1 + place) moments) → IsFaceOf site (place + 1) face
    each place face h =
        let within = h.0 in
        let e : 1 + place ≡ place + 1 = omega arith in
        subst (IsFaceOf site (place + 1)) (sym h.1)
        (record {
          panel_is = e;
          of_the_site = of_the_site site kept moments (1 + place) (omega arith, omega (arith, within));
          counter =
              counter_ends site kept moments (1 + place) counters;
        })
