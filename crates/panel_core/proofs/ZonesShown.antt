-- The zones on a face: put panel by panel, by the words that are shown.
use Rattle.std.proofs.Common.{◌≡◌, ◌∙◌, ◌+◌, ◌-◌, ◌≤◌, ◌<◌, ℕ, List, [], ◌∷◌, length, get_or, set, inl, inr}
use Rattle.std.proofs.Common.{refl, sym, ap, arith, length-set, replicate}
use Rattle.std.specs.Prelude.{slice_index_or}
use Rattle.std.proofs.lemmas.List.{get_or-replicate, get_or-set_other, get_or-set_same}
use Rattle.site_types.specs.declared.retained.Retained.{Retained}
use Rattle.site_types.specs.declared.site.Site.{Site}
use Rattle.site_types.specs.declared.word.Word.{Word}
use Rattle.site_types.specs.Done.{Done}
use Rattle.site_types.specs.Valid.{IsValid}
use Rattle.site_types.proofs.Done.{lt_tells}
use Rattle.panel_effects.proofs.HeardMasks.{filled, zones_elsewhere}
use Rattle.panel_rules.specs.Faces.{shown_word}
use Rattle.panel_rules.specs.Kept.{kept_at}
use Rattle.panel_rules.specs.Moments.{Moment, IsRun}
use Rattle.panel_rules.specs.Run.{tells_fault}
use Rattle.panel_rules.specs.Words.{word_made}
use Rattle.panel_core.specs.declared.system.System.{System}
use Rattle.panel_parts.specs.Applied.{done_so_far}
use Rattle.panel_core.specs.ShownFaces.{ShowsByWords, ShowsWord}
use Rattle.panel_core.specs.Stands.{HasPanel, StandsFor}
use Rattle.panel_core.proofs.Shows.{asked_member}
use Rattle.panel_core.proofs.WholeFaces.{other_shown}

-- the words of a panel that the site hasn't tell none of these zones
abbrev pub TellsNone : (Word → ℕ) → Type 0
TellsNone told = (site : Site) (kept : Retained) (done : List Done) (source : ℕ) (word : List Moment) → IsValid site → site.panels < source
    → told (word_made site kept done (tells_fault site kept done) source word) ≡ 0

pub no_alarm : TellsNone (λ (word : Word). word.alarm)
no_alarm site kept done source [] valid beyond = refl
no_alarm site kept done source (moment ∷ earlier) valid beyond = sym (zones_elsewhere site valid source _ beyond)

pub no_first : TellsNone (λ (word : Word). word.first)
no_first site kept done source [] valid beyond = refl
no_first site kept done source (moment ∷ earlier) valid beyond = sym (zones_elsewhere site valid source _ beyond)

-- the zones of the panels before one are those of the words shown, and the others have none
pub record ShowsUpTo (told : Word → ℕ) (system : System) (panel source : ℕ) (zones : List ℕ) : Type 0 where
  pub wide : length zones ≡ 8
  pub each : (site : Site) (kept : Retained) (before : List Moment) → StandsFor site kept before system → IsRun site.panels before
      → (q : ℕ) → 1 ≤ q → q < source → slice_index_or zones (q - 1) 0 ≡ told (shown_word site kept (done_so_far site kept before) panel before q)
  pub none : (q : ℕ) → 1 ≤ q → source ≤ q → q ≤ 8 → slice_index_or zones (q - 1) 0 ≡ 0

-- with the zones of one more panel put, those of all before it and its own are right
pub each_put : (zones : List ℕ) (source item : ℕ) (right : ℕ → ℕ) → 1 ≤ source → source - 1 < length zones → item ≡ right source
    → ((q : ℕ) → 1 ≤ q → q < source → get_or zones (q - 1) 0 ≡ right q)
    → (q : ℕ) → 1 ≤ q → q < source + 1 → get_or (set zones (source - 1) item) (q - 1) 0 ≡ right q
each_put zones source item right first room is each q low high =
    elim (lt_tells q source) [
      | inl t ↦
          let less = t.1 in
          get_or-set_other zones (source - 1) (q - 1) item 0 (λ same. absurd (omega (arith, same, less, low, first)))
          ∙ each q low less
      | inr t ↦
          let same : q ≡ source = (let more = t.1 in omega (arith, more, high)) in
          ap (λ p. get_or (set zones (source - 1) item) (p - 1) 0) same
          ∙ get_or-set_same zones (source - 1) item 0 room ∙ is ∙ ap right (sym same)
    ]

module _ (told : Word → ℕ) (system : System) (panel : ℕ) where
  pub shows_none_yet : ShowsUpTo told system panel 1 (replicate 8 0)
  shows_none_yet = record {
    wide = refl;
    each = λ site kept before h run q low high. absurd (omega (arith, low, high));
    none = λ q low behind high. get_or-replicate 8 (q - 1) 0 0 (omega (arith, low, high));
  }

  pub shows_next : (source : ℕ) (word : Word) (zones : List ℕ) → 1 ≤ source → source ≤ 8 → ShowsUpTo told system panel source zones
      → ShowsWord system panel source word → ShowsUpTo told system panel (source + 1) (set zones (source - 1) (told word))
  shows_next source word zones first last h shown = record {
    wide = length-set zones (source - 1) (told word) ∙ h.wide;
    each = λ site kept before stands run. (
        let wide = h.wide in
        each_put zones source (told word) (λ q. told (shown_word site kept (done_so_far site kept before) panel before q)) first
        (omega (arith, wide, first, last)) (ap told (shown site kept before stands run)) (h.each site kept before stands run));
    none = λ q low behind high. (
        get_or-set_other zones (source - 1) (q - 1) (told word) 0 (λ same. absurd (omega (arith, same, behind, low, first)))
        ∙ h.none q low (omega (arith, behind)) high);
  }

  module _ (site : Site) (kept : Retained) (before : List Moment) (stands : StandsFor site kept before system) where
    abbrev right : ℕ → ℕ
    right q = told (shown_word site kept (done_so_far site kept before) panel before q)

    elsewhere : TellsNone told → HasPanel panel system → (q : ℕ) → site.panels < q → right q ≡ 0
    elsewhere nothing has q beyond =
        let member = asked_member site kept before system panel has stands in
        ap told (other_shown site kept before panel q (λ same. let last = member.1 in absurd (omega (arith, same, beyond, last))))
        ∙ nothing site kept (done_so_far site kept before) q (kept_at site.panels panel q before) stands.valid beyond

    right_at : TellsNone told → HasPanel panel system → IsRun site.panels before → (source : ℕ) (zones : List ℕ) → source ≡ system.site.panels + 1
        → ShowsUpTo told system panel source zones → (q : ℕ) → 1 ≤ q → q ≤ 8 → slice_index_or zones (q - 1) 0 ≡ right q
    right_at nothing has run source zones ended h q low high =
        let panels = ap (λ (s : Site). s.panels) stands.same in
        elim (lt_tells site.panels q) [
          | inl t ↦
              let beyond = t.1 in
              h.none q low (omega (arith, ended, panels, beyond)) high ∙ sym (elsewhere nothing has q beyond)
          | inr t ↦
              let within = t.1 in
              h.each site kept before stands run q low (omega (arith, ended, panels, within))
        ]

  -- with those of all panels of the site put, all are right
  pub shows_all : (source : ℕ) (zones : List ℕ) → TellsNone told → HasPanel panel system → source ≡ system.site.panels + 1
      → ShowsUpTo told system panel source zones → ShowsByWords told system panel zones
  shows_all source zones nothing has ended h site kept before stands run =
      filled (right site kept before stands) zones 1 8 h.wide
      (λ k small. (let place : 1 + k - 1 ≡ k = omega arith in
      sym (ap (λ n. slice_index_or zones n 0) place)
      ∙ right_at site kept before stands nothing has run source zones ended h (1 + k) (omega arith) (omega (arith, small))))
