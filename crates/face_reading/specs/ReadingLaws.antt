-- What the text of a run tells whoever reads it.
use Rattle.std.specs.Prelude.{◌≡◌}
use Rattle.site_types.specs.declared.site.Site.{Site}
use Rattle.site_types.specs.Valid.{IsValid}
use Rattle.face_text.specs.declared.timeline.Timeline.{Timeline}
use Rattle.face_text.specs.Timelines.{IsInForm, text_of}

-- no two timelines in form of a site have one text
abbrev pub TextsAreTheirOwn : Type 0
TextsAreTheirOwn = (site : Site) → IsValid site → (one other : Timeline) → IsInForm site one
    → IsInForm site other → text_of site one ≡ text_of site other → one ≡ other
