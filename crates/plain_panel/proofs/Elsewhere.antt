-- Of a panel that a site has not, no panel of it keeps a word.
use Rattle.std.proofs.Common.{◌≡◌, ◌<◌, ◌≤◌, ◌==◌, ℕ, Bool, true, false, List, [], ◌∷◌, arith, inl, inr, refl, if◌then◌else◌}
use Rattle.std.proofs.lemmas.Bool.Decides.{eqb_tells}
use Rattle.tick_units.specs.declared.task.Task.TheVariants.{Link}
use Rattle.site_types.specs.declared.retained.Retained.{Retained}
use Rattle.site_types.specs.declared.site.Site.{Site}
use Rattle.site_types.specs.Done.{Done}
use Rattle.site_types.specs.Valid.{IsPanel}
use Rattle.panel_links.specs.Words.{carries, left_of, right_of}
use Rattle.site_types.specs.Words.{empty_word}
use Rattle.panel_rules.specs.Faces.{shown_word}
use Rattle.panel_rules.specs.Kept.{kept_at, made_at, taken_over}
use Rattle.panel_rules.specs.Moments.{Moment, Began, Happened, Turned, Kept, tick_of}
use Rattle.panel_rules.specs.States.{is_up}
use Rattle.panel_rules.proofs.Ways.{left_member, right_member}

apart : (a b : ℕ) → b < a → (a == b) ≡ false
apart a b less = elim (eqb_tells a b) [ inl h ↦ absurd (omega (arith, h.1)) | inr h ↦ h.0 ]

-- nothing taken over nothing
nothing_over : (up carried : Bool) (kept other : List Moment) → kept ≡ [] → other ≡ [] → taken_over up carried kept other ≡ []
nothing_over true true kept other none none_other = rw (none, none_other) refl
nothing_over true false kept other none none_other = none
nothing_over false carried kept other none none_other = none

-- nor after a turn of Link, where nothing was kept by the neighbours and the panel itself
linked : (here up carried low_up same : Bool) (made own down above_kept : List Moment) → same ≡ false → own ≡ [] → down ≡ [] → above_kept ≡ []
    → (if here then taken_over up carried (taken_over low_up carried (if same then made else own) down) above_kept else own) ≡ []
linked true up carried low_up same made own down above_kept other own_is down_is above_is =
    let kept : (if same then made else own) ≡ [] = rw other own_is in
    nothing_over up carried (taken_over low_up carried (if same then made else own) down) above_kept
    (nothing_over low_up carried (if same then made else own) down kept down_is) above_is
linked false up carried low_up same made own down above_kept other own_is down_is above_is = own_is

not_same : (a b : ℕ) → a < b → (a == b) ≡ false
not_same a b less = elim (eqb_tells a b) [ inl h ↦ absurd (omega (arith, h.1)) | inr h ↦ h.0 ]

module _ (panels source : ℕ) (none : panels < source) where
  pub keeps_nothing : (panel : ℕ) (before : List Moment) → 1 ≤ panel → panel ≤ panels → kept_at panels panel source before ≡ []
  keeps_nothing panel [] low high = refl
  keeps_nothing panel (Began ∷ before) low high = keeps_nothing panel before low high
  keeps_nothing panel (Happened event ∷ before) low high = keeps_nothing panel before low high
  keeps_nothing panel (Turned other Link ∷ before) low high =
      let up = right_member panels panel (low, high) in
      let down = left_member panels panel (low, high) in
      linked (other == panel) (is_up panel before) (carries panels (tick_of before) source) (is_up (left_of panels panel) before) (panel == source)
      (made_at panel before) (kept_at panels panel source before) (kept_at panels (left_of panels panel) source before)
      (kept_at panels (right_of panels panel) source before) (not_same panel source (omega arith)) (keeps_nothing panel before low high)
      (keeps_nothing (left_of panels panel) before down.0 down.1) (keeps_nothing (right_of panels panel) before up.0 up.1)
  keeps_nothing panel (Turned other task ∷ before) low high = keeps_nothing panel before low high
  keeps_nothing panel (Kept failed ∷ before) low high = keeps_nothing panel before low high

pub shows_nothing : (site : Site) (kept : Retained) (done : List Done) (panel : ℕ) (before : List Moment) (source : ℕ) → IsPanel site panel
    → site.panels < source → empty_word ≡ shown_word site kept done panel before source
shows_nothing site kept done panel before source own none =
    let other : (source == panel) ≡ false = apart source panel (omega arith) in
    let nothing : kept_at site.panels panel source before ≡ [] = keeps_nothing site.panels source none panel before own.0 own.1 in
    rw (other, nothing) refl
