-- The facts that kept words tell, as masks.
use Rattle.std.specs.Prelude.{◌≡◌, ◌≤◌, ℕ, List}
use Rattle.site_types.specs.declared.site.Site.{Site}
use Rattle.site_types.specs.Valid.{IsPanel, IsValid}
use Rattle.marker_table.specs.declared.facts.Facts.{Facts as Masks}
use Rattle.panel_effects.specs.Masks.{AreMasksOf}
use Rattle.panel_frames.specs.Grammar.{IsWord}
use Rattle.kept_words.specs.declared.kept_words.KeptWords.{KeptWords}
use Rattle.kept_words.specs.Arrivals.{Arrival, word_kept}
use Rattle.kept_words.specs.Stands.{KeepsArrived}
use Rattle.node_rules.specs.Handed.{facts_of_words}

-- the ring has so many panels
abbrev pub HasPanels : KeptWords → ℕ → Type 0
HasPanels words panels = (words.panels ≡ panels) × (panels ≤ 8)

-- each word that is kept is one that a frame may have of its panel
abbrev pub AreWordsOf : Site → ℕ → List Arrival → Type 0
AreWordsOf site panel arrivals =
    (source : ℕ) → IsPanel site source → IsWord site source (word_kept panel source arrivals)

-- masks are the facts that the words tell, for whatever site and whatever came
abbrev pub TellsKeptFacts : KeptWords → Masks → Type 0
TellsKeptFacts words masks =
    (site : Site) (panel : ℕ) (arrivals : List Arrival) → IsValid site
    → KeepsArrived site.panels panel arrivals words → AreWordsOf site panel arrivals
    → AreMasksOf site (facts_of_words site (λ source. word_kept panel source arrivals)) masks
