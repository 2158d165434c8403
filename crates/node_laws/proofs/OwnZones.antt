-- A panel by itself shows of its own zones what it would show in the ring.
use Rattle.std.proofs.Common.{◌≡◌, ◌∙◌, ◌+◌, ◌-◌, ℕ, Bool, List, [], ◌∷◌, Some, slice_get, map, if◌then◌else◌, inl, inr, refl, sym, ap, subst, arith}
use Rattle.std.specs.Prelude.{slice_index}
use Rattle.std.specs.List.{range_with_len}
use Rattle.site_types.specs.declared.retained.Retained.{Retained}
use Rattle.site_types.specs.declared.site.Site.{Site}
use Rattle.site_types.specs.declared.word.Word.{Word}
use Rattle.site_types.specs.declared.zone.Zone.{Zone}
use Rattle.site_types.specs.Bits.{has_bit}
use Rattle.site_types.specs.Done.{Done}
use Rattle.site_types.specs.Valid.{IsValid}
use Rattle.site_types.proofs.ValidSites.{zone_at, zone_numbers}
use Rattle.panel_rules.specs.Caused.{IsCausedAt}
use Rattle.panel_rules.specs.Faces.{face_with, shown_word}
use Rattle.panel_rules.specs.Kept.{heard, made_at}
use Rattle.panel_rules.specs.Moments.{Moment, IsPanel, tick_of}
use Rattle.panel_rules.specs.Run.{tells_fault}
use Rattle.panel_rules.specs.Words.{word_made}
use Rattle.panel_rules.specs.Zones.{panel_of, panel_of_zone}
use Rattle.panel_rules.proofs.AnswersTell.{eq_true}
use Rattle.panel_laws.specs.FaceLaws.{shows_first, shows_zone}
use Rattle.panel_laws.proofs.FacesShow.{due_zone_shown, entry, shown_zone_caused}
use Rattle.panel_laws.proofs.FirstsShow.{lone_zone_shown}
use Rattle.kept_words.specs.Arrivals.{word_kept}
use Rattle.node_rules.specs.Handed.{own_tells}
use Rattle.node_rules.specs.Histories.{NodeMoment, befallen, frames_in}
use Rattle.node_rules.specs.Nodes.{node_done, node_face, node_up, node_words}
use Rattle.node_rules.specs.Shown.{word_on_face}
use Rattle.node_laws.specs.OwnZones.{DueAtNodeIsShown, LoneAtNodeIsShown, OwnZonesOfTheRing, ShownAtNodeIsCaused}

-- a word has the same zones whatever it tells of faults
alarm_alike : (site : Site) (kept : Retained) (done : List Done) (told others : ℕ → List Moment → Bool) (panel : ℕ) (word : List Moment)
    → (word_made site kept done told panel word).alarm ≡ (word_made site kept done others panel word).alarm
alarm_alike site kept done told others panel [] = refl
alarm_alike site kept done told others panel (turn ∷ before) = refl

first_alike : (site : Site) (kept : Retained) (done : List Done) (told others : ℕ → List Moment → Bool) (panel : ℕ) (word : List Moment)
    → (word_made site kept done told panel word).first ≡ (word_made site kept done others panel word).first
first_alike site kept done told others panel [] = refl
first_alike site kept done told others panel (turn ∷ before) = refl

-- the entry of a panel in a list by panels
at_panel : (f : ℕ → ℕ) (panel : ℕ) → IsPanel 8 panel → slice_index (map f (range_with_len 1 8)) (panel - 1) ≡ f panel
at_panel f panel p = entry f (panel - 1) (omega (arith, p.0, p.1)) ∙ (let e : panel - 1 + 1 ≡ panel = omega (arith, p.0) in ap f e)

module _ (site : Site) (panel : ℕ) (kept : Retained) (history : List NodeMoment) (own : IsPanel 8 panel) where
  abbrev on_face : ℕ → Word
  on_face =
      word_on_face site kept (node_done site panel history kept) panel (node_words site panel history) (node_up site panel history)
      (λ source. word_kept panel source (frames_in history)) (befallen history)

  abbrev in_ring : ℕ → Word
  in_ring = shown_word site kept (node_done site panel history kept) panel (befallen history)

  abbrev by_node : ℕ → List Moment → Bool
  by_node source = own_tells site kept (node_done site panel history kept) panel (node_words site panel history) (node_up site panel history)

  abbrev by_ring : ℕ → List Moment → Bool
  by_ring = tells_fault site kept (node_done site panel history kept)

  own_zones_alike : slice_index (node_face site panel history kept).zones (panel - 1)
      ≡ slice_index (face_with site kept (node_done site panel history kept) kept panel (befallen history)).zones (panel - 1)
  own_zones_alike =
      at_panel (λ source. (on_face source).alarm) panel own
      ∙ rw (eq_true panel panel refl) (alarm_alike site kept (node_done site panel history kept) by_node by_ring panel
      (made_at panel (befallen history)))
      ∙ sym (at_panel (λ source. (in_ring source).alarm) panel own)

  own_firsts_alike : slice_index (node_face site panel history kept).firsts (panel - 1)
      ≡ slice_index (face_with site kept (node_done site panel history kept) kept panel (befallen history)).firsts (panel - 1)
  own_firsts_alike =
      at_panel (λ source. (on_face source).first) panel own
      ∙ rw (eq_true panel panel refl) (first_alike site kept (node_done site panel history kept) by_node by_ring panel
      (made_at panel (befallen history)))
      ∙ sym (at_panel (λ source. (in_ring source).first) panel own)

pub zones_of_the_ring : OwnZonesOfTheRing
zones_of_the_ring site panel kept history own =
    record { zones = own_zones_alike site panel kept history own; firsts = own_firsts_alike site panel kept history own }

-- ---- of a zone of a valid site

of_eight : (site : Site) (zone : ℕ) (plan : Zone) → IsValid site → slice_get site.zones zone ≡ Some plan → IsPanel 8 plan.panel
of_eight site zone plan valid is = let n = zone_numbers site valid zone plan is in (omega (arith, n.0), omega (arith, n.1))

module _ (site : Site) (kept : Retained) (history : List NodeMoment) (zone : ℕ) (plan : Zone) (valid : IsValid site)
    (is : slice_get site.zones zone ≡ Some plan) where
  zone_alike : shows_zone (node_face site plan.panel history kept) plan
      ≡ shows_zone (face_with site kept (node_done site plan.panel history kept) kept plan.panel (befallen history)) plan
  zone_alike = ap (λ mask. has_bit mask (plan.number - 1)) (own_zones_alike site plan.panel kept history (of_eight site zone plan valid is))

  zone_first_alike : shows_first (node_face site plan.panel history kept) plan
      ≡ shows_first (face_with site kept (node_done site plan.panel history kept) kept plan.panel (befallen history)) plan
  zone_first_alike = ap (λ mask. has_bit mask (plan.number - 1)) (own_firsts_alike site plan.panel kept history (of_eight site zone plan valid is))

pub due_shown : DueAtNodeIsShown
due_shown site kept history zone plan after is due =
    zone_alike site kept history zone plan after.valid is
    ∙ due_zone_shown site kept (node_done site plan.panel history kept) kept (befallen history) zone plan plan.panel after
    (zone_at site after.valid zone plan is).panel is due

pub shown_caused : ShownAtNodeIsCaused
shown_caused site kept history zone plan after is shown =
    subst (IsCausedAt site kept (node_done site plan.panel history kept) (befallen history) zone)
    (ap (λ b. if b then tick_of (befallen history) else heard site.panels plan.panel (panel_of_zone site zone) (befallen history))
    (eq_true plan.panel (panel_of_zone site zone) (sym (ap panel_of is))))
    (shown_zone_caused site kept (node_done site plan.panel history kept) kept (befallen history) zone plan plan.panel after
    (zone_at site after.valid zone plan is).panel is (sym (zone_alike site kept history zone plan after.valid is) ∙ shown))

pub lone_shown : LoneAtNodeIsShown
lone_shown site kept history zone plan after is signals =
    elim (lone_zone_shown site kept (node_done site plan.panel history kept) kept (befallen history) zone plan after is signals) [
      | inl alarm ↦ inl (zone_alike site kept history zone plan after.valid is ∙ alarm)
      | inr first ↦ inr (zone_first_alike site kept history zone plan after.valid is ∙ first)
    ]
