-- Operations that are done in a tick or later change nothing of what turns up to that tick were handed and made of it.
use Rattle.std.specs.Prelude.{ℕ, Bool, List}
use Rattle.site_types.specs.declared.retained.Retained.{Retained}
use Rattle.site_types.specs.declared.site.Site.{Site}
use Rattle.site_types.specs.declared.word.Word.{Word}
use Rattle.later_operations.specs.Later.{StaysAsMoreIsDone}
use Rattle.panel_rules.specs.Moments.{Moment}
use Rattle.node_rules.specs.Handed.{handed_facts, handed_faults, handed_word, outside_by_words, own_tells}

-- the facts of a turn of Effect, what stands besides missing points at a turn of Hold, the latest word and its faults
pub record HandedStays (site : Site) (kept : Retained) (panel : ℕ) (handed : List Moment → ℕ → Word)
    (up : List Moment → ℕ → Bool) : Type 0 where
  pub facts : (effect_of : ℕ) → StaysAsMoreIsDone (λ done. handed_facts site kept done panel handed up effect_of)
  pub outside : StaysAsMoreIsDone
      (λ done. outside_by_words site kept done panel handed up (own_tells site kept done panel handed up))
  pub word : StaysAsMoreIsDone (λ done. handed_word site kept done panel handed up)
  pub faults : StaysAsMoreIsDone (λ done. handed_faults site kept done panel handed up)

abbrev pub WhatIsHandedStays : Type 0
WhatIsHandedStays =
    (site : Site) (kept : Retained) (panel : ℕ) (handed : List Moment → ℕ → Word) (up : List Moment → ℕ → Bool)
    → HandedStays site kept panel handed up
