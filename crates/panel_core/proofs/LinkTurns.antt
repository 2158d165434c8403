-- A turn of Link after which the words of other panels have the zones that they had changes nothing that its panel shows.
use Rattle.std.proofs.Common.{◌≡◌, ◌≢◌, ◌∙◌, ◌+◌, ◌==◌, ◌≤◌, ℕ, zero, suc, Bool, true, false, List, ◌∷◌, map, inl, inr, if◌then◌else◌, refl, sym, ap, arith}
use Rattle.std.specs.List.{range_with_len}
use Rattle.std.proofs.lemmas.Bool.Decides.{eqb_tells}
use Rattle.tick_units.specs.declared.task.Task.TheVariants.{Link}
use Rattle.site_types.specs.declared.retained.Retained.{Retained}
use Rattle.site_types.specs.declared.site.Site.{Site}
use Rattle.site_types.specs.declared.word.Word.{Word}
use Rattle.site_types.specs.Done.{Done}
use Rattle.site_types.specs.Limits.{most_panels}
use Rattle.site_types.proofs.Done.{lt_tells}
use Rattle.panel_links.specs.Changes.{KeepsZones}
use Rattle.panel_links.specs.Kept.{HasZonesOf}
use Rattle.panel_links.specs.Stands.{kept_in}
use Rattle.panel_rules.specs.Faces.{shown_word}
use Rattle.panel_rules.specs.Kept.{kept_at}
use Rattle.panel_rules.specs.Moments.{Moment, Turned, IsPanel}
use Rattle.panel_rules.specs.Run.{tells_fault}
use Rattle.panel_rules.specs.Words.{kept_word_of, latest_word}
use Rattle.panel_rules.proofs.RingWords.{kept_by_ring}
use Rattle.panel_core.specs.declared.system.System.{System}
use Rattle.panel_parts.specs.Applied.{applied}
use Rattle.panel_core.specs.Stands.{StandsFor}
use Rattle.panel_parts.proofs.Applied.{applied_stays}
use Rattle.panel_core.proofs.FacesAlike.{Alike, link_alike}
use Rattle.panel_core.proofs.ZonesShown.{TellsNone, no_alarm, no_first}

same_over : (f g : ℕ → ℕ) (first many : ℕ) → ((k : ℕ) → first ≤ k → f k ≡ g k) → map f (range_with_len first many) ≡ map g (range_with_len first many)
same_over f g first zero each = refl
same_over f g first (suc many) each =
    ap (λ x. x ∷ map f (range_with_len (first + 1) many)) (each first (omega arith))
    ∙ ap (λ xs. g first ∷ xs) (same_over f g (first + 1) many (λ k low. each k (omega (arith, low))))

-- what a ring keeps is what the rules say
kept_is : (site : Site) (kept : Retained) (before : List Moment) (system : System) → StandsFor site kept before system
    → (panel source : ℕ) → IsPanel site.panels panel → IsPanel site.panels source
    → kept_in system.ring panel source
    ≡ kept_word_of site kept (applied site kept before) (tells_fault site kept (applied site kept before)) panel source before
kept_is site kept before system h panel source at from =
    let done = applied site kept before in
    let size = h.ring.size in
    h.ring.words panel source (at.0, omega (arith, at.1, size)) (from.0, omega (arith, from.1, size))
    ∙ kept_by_ring site kept done (tells_fault site kept done) before panel source h.valid.forms.panels.1 at from

module _ (site : Site) (kept : Retained) (panel : ℕ) (before : List Moment) (old turned : System) (h : StandsFor site kept before old)
    (after : StandsFor site kept (Turned panel Link ∷ before) turned) (member : IsPanel site.panels panel)
    (keeps : KeepsZones old.ring panel turned.ring) where
  abbrev done : List Done
  done = applied site kept before

  abbrev word_kept : (source : ℕ) → List Moment → Word
  word_kept source m = kept_word_of site kept done (tells_fault site kept done) panel source m

  zones_kept : (source : ℕ) → IsPanel site.panels source → source ≢ panel
      → HasZonesOf (word_kept source (Turned panel Link ∷ before)) (word_kept source before)
  zones_kept source from apart =
      let moment = Turned panel Link in
      let e = applied_stays site kept moment before refl in
      let was = kept_is site kept before old h panel source member from in
      let is = kept_is site kept (moment ∷ before) turned after panel source member from in
      let same = keeps source (from.0, (let size = h.ring.size in omega (arith, from.1, size))) apart in
      record {
        alarm = ap (λ ds. (kept_word_of site kept ds (tells_fault site kept ds) panel source (moment ∷ before)).alarm) e
            ∙ ap (λ (w : Word). w.alarm) (sym is) ∙ same.alarm ∙ ap (λ (w : Word). w.alarm) was;
        first = ap (λ ds. (kept_word_of site kept ds (tells_fault site kept ds) panel source (moment ∷ before)).first) e
            ∙ ap (λ (w : Word). w.first) (sym is) ∙ same.first ∙ ap (λ (w : Word). w.first) was;
      }

  zones_stay : (told : Word → ℕ) → TellsNone told → ((word other : Word) → HasZonesOf word other → told word ≡ told other)
      → map (λ source. told (shown_word site kept done panel (Turned panel Link ∷ before) source)) (range_with_len 1 most_panels)
      ≡ map (λ source. told (shown_word site kept done panel before source)) (range_with_len 1 most_panels)
  zones_stay told nothing alike = same_over _ _ 1 most_panels (λ source low. stays source low (source == panel) refl)
    where
      other : (source : ℕ) → 1 ≤ source → (source == panel) ≡ false
          → told (word_kept source (Turned panel Link ∷ before)) ≡ told (word_kept source before)
      other source low e =
          elim (lt_tells site.panels source) [
            | inl t ↦
                nothing site kept done source (kept_at site.panels panel source (Turned panel Link ∷ before)) h.valid t.1
                ∙ sym (nothing site kept done source (kept_at site.panels panel source before) h.valid t.1)
            | inr t ↦
                elim (eqb_tells source panel) [
                  | inl s ↦ absurd (let both = sym s.0 ∙ e in cc)
                  | inr s ↦ alike (word_kept source (Turned panel Link ∷ before)) (word_kept source before) (zones_kept source (low, t.1) s.1)
                ]
          ]

      stays : (source : ℕ) → 1 ≤ source → (own : Bool) → (source == panel) ≡ own
          → told (if own then latest_word site kept done (tells_fault site kept done) panel before
          else kept_word_of site kept done (tells_fault site kept done) panel source (Turned panel Link ∷ before))
          ≡ told (if own then latest_word site kept done (tells_fault site kept done) panel before
          else kept_word_of site kept done (tells_fault site kept done) panel source before)
      stays source low true e = refl
      stays source low false e = other source low e

  pub same_link : Alike site kept panel (applied site kept before) (Turned panel Link ∷ before) (applied site kept before) before
  same_link =
      link_alike site kept panel done before (zones_stay (λ (w : Word). w.alarm) no_alarm (λ word other same. same.alarm))
      (zones_stay (λ (w : Word). w.first) no_first (λ word other same. same.first))
