-- The zones on a face of a panel by itself: put panel by panel, by the words that are shown.
use Rattle.std.proofs.Common.{◌≡◌, ◌≢◌, ◌∙◌, ◌+◌, ◌-◌, ◌≤◌, ◌<◌, ℕ, List, length, set, inl, inr}
use Rattle.std.proofs.Common.{refl, sym, ap, arith, length-set, replicate}
use Rattle.std.specs.Prelude.{slice_index_or}
use Rattle.std.proofs.lemmas.Bool.{eq-eqb, ne_eqb}
use Rattle.std.proofs.lemmas.List.{get_or-replicate, get_or-set_other}
use Rattle.site_types.specs.declared.retained.Retained.{Retained}
use Rattle.site_types.specs.declared.site.Site.{Site}
use Rattle.site_types.specs.declared.word.Word.{Word}
use Rattle.site_types.specs.Words.{empty_word}
use Rattle.site_types.proofs.Done.{lt_tells}
use Rattle.kept_words.specs.Arrivals.{word_kept}
use Rattle.node_rules.specs.Handed.{handed_word}
use Rattle.node_rules.specs.Histories.{NodeMoment, befallen, frames_in}
use Rattle.node_rules.specs.Nodes.{node_done, node_up, node_words}
use Rattle.node_rules.proofs.OwnFrames.{came_ok}
use Rattle.panel_core.proofs.ZonesShown.{each_put}
use Rattle.panel_effects.proofs.HeardMasks.{filled}
use Rattle.panel_parts.specs.Applied.{applied}
use Rattle.panel_rules.specs.Moments.{IsRun}
use Rattle.panel_node.specs.declared.node.Node.{Node}
use Rattle.panel_node.specs.Shown.{ShowsByWords, ShowsWord, node_shows}
use Rattle.panel_node.specs.Stands.{NodeStandsFor}
use Rattle.panel_node.specs.Told.{arrived}

module _ (site : Site) (panel : ℕ) (kept : Retained) (history : List NodeMoment) where
  -- of its own zones the latest word, of others the one that came
  pub own_shown : (source : ℕ) → source ≡ panel → node_shows site panel kept history source
      ≡ handed_word site kept (node_done site panel history kept) panel (node_words site panel history) (node_up site panel history) (befallen history)
  own_shown source own = rw (eq-eqb source panel own) refl

  pub other_shown : (source : ℕ) → source ≢ panel → node_shows site panel kept history source ≡ word_kept panel source (frames_in history)
  other_shown source apart = rw (ne_eqb source panel apart) refl

  pub other_kept : (source : ℕ) → source ≢ panel
      → word_kept panel source (arrived site kept (applied site kept (befallen history)) panel history) ≡ word_kept panel source (frames_in history)
  other_kept source apart = rw (ne_eqb source panel apart) refl

-- the zones of the panels before one are those of the words shown, and the others have none
pub record ShowsUpTo (told : Word → ℕ) (node : Node) (source : ℕ) (zones : List ℕ) : Type 0 where
  pub wide : length zones ≡ 8
  pub each : (site : Site) (panel : ℕ) (kept : Retained) (history : List NodeMoment) → NodeStandsFor site panel kept history node
      → IsRun site.panels (befallen history) → (q : ℕ) → 1 ≤ q → q < source
      → slice_index_or zones (q - 1) 0 ≡ told (node_shows site panel kept history q)
  pub none : (q : ℕ) → 1 ≤ q → source ≤ q → q ≤ 8 → slice_index_or zones (q - 1) 0 ≡ 0

module _ (told : Word → ℕ) (node : Node) where
  pub shows_none_yet : ShowsUpTo told node 1 (replicate 8 0)
  shows_none_yet = record {
    wide = refl;
    each = λ site panel kept history h run q low high. absurd (omega (arith, low, high));
    none = λ q low behind high. get_or-replicate 8 (q - 1) 0 0 (omega (arith, low, high));
  }

  -- a panel of the site more
  pub shows_next : (source : ℕ) (word : Word) (zones : List ℕ) → 1 ≤ source → source ≤ node.site.panels → ShowsUpTo told node source zones
      → ShowsWord node source word → ShowsUpTo told node (source + 1) (set zones (source - 1) (told word))
  shows_next source word zones first last h shown = record {
    wide = length-set zones (source - 1) (told word) ∙ h.wide;
    each = λ site panel kept history stands run. (
        let wide = h.wide in
        let panels = ap (λ (s : Site). s.panels) stands.same in
        let eight = stands.valid.forms.panels.1 in
        each_put zones source (told word) (λ q. told (node_shows site panel kept history q)) first (omega (arith, wide, first, last, panels, eight))
        (ap told (shown site panel kept history stands run)) (h.each site panel kept history stands run));
    none = λ q low behind high. (
        get_or-set_other zones (source - 1) (q - 1) (told word) 0 (λ same. absurd (omega (arith, same, behind, low, first)))
        ∙ h.none q low (omega (arith, behind)) high);
  }

  module _ (site : Site) (panel : ℕ) (kept : Retained) (history : List NodeMoment) (stands : NodeStandsFor site panel kept history node) where
    abbrev right : ℕ → ℕ
    right q = told (node_shows site panel kept history q)

    -- of panels that the site hasn't no word came
    elsewhere : told empty_word ≡ 0 → (q : ℕ) → 1 ≤ q → site.panels < q → right q ≡ 0
    elsewhere nothing q low beyond =
        let last = stands.parts.member.1 in
        ap told (other_shown site panel kept history q (λ same. absurd (omega (arith, same, beyond, last)))
        ∙ (came_ok site panel q low history stands.frames).absent beyond)
        ∙ nothing

    right_at : told empty_word ≡ 0 → IsRun site.panels (befallen history) → (source : ℕ) (zones : List ℕ) → source ≡ node.site.panels + 1
        → ShowsUpTo told node source zones → (q : ℕ) → 1 ≤ q → q ≤ 8 → slice_index_or zones (q - 1) 0 ≡ right q
    right_at nothing run source zones ended h q low high =
        let panels = ap (λ (s : Site). s.panels) stands.same in
        elim (lt_tells site.panels q) [
          | inl t ↦
              let beyond = t.1 in
              h.none q low (omega (arith, ended, panels, beyond)) high ∙ sym (elsewhere nothing q low beyond)
          | inr t ↦
              let within = t.1 in
              h.each site panel kept history stands run q low (omega (arith, ended, panels, within))
        ]

  -- with those of all panels of the site put, all are right
  pub shows_all : (source : ℕ) (zones : List ℕ) → told empty_word ≡ 0 → source ≡ node.site.panels + 1 → ShowsUpTo told node source zones
      → ShowsByWords told node zones
  shows_all source zones nothing ended h site panel kept history stands run =
      filled (right site panel kept history stands) zones 1 8 h.wide
      (λ k small. (let place : 1 + k - 1 ≡ k = omega arith in
      sym (ap (λ n. slice_index_or zones n 0) place)
      ∙ right_at site panel kept history stands nothing run source zones ended h (1 + k) (omega arith) (omega (arith, small))))
