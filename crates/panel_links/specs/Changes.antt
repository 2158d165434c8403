-- What a ring keeps after a panel took words, by what it kept before.
use Rattle.std.specs.Prelude.{◌≡◌, ◌≢◌, ◌==◌, ◌&&◌, ℕ, if◌then◌else◌}
use Rattle.tick_units.specs.declared.tick.Tick.{Tick}
use Rattle.site_types.specs.declared.word.Word.{Word}
use Rattle.panel_links.specs.declared.ring.Ring.{Ring}
use Rattle.panel_links.specs.Kept.{HasZonesOf, newest}
use Rattle.panel_links.specs.Stands.{HasPanel, kept_in, newest_of}
use Rattle.panel_links.specs.Words.{carries}

-- a panel keeps the newest of what it and two others keep of the panels of the tick's group; all else stays
abbrev pub TakesNewest : Ring → ℕ → ℕ → ℕ → ℕ → Ring → Type 0
TakesNewest old at left right tick ring =
    (a o : ℕ) → HasPanel old a → HasPanel old o
    → kept_in ring a o
    ≡ (if (a == at) && carries old.panels tick o
    then newest (newest (kept_in old a o) (kept_in old left o)) (kept_in old right o)
    else kept_in old a o)

-- a panel keeps the newest of what it and two others keep of one; all else stays
abbrev pub TakesNewestOf : Ring → ℕ → ℕ → ℕ → ℕ → Ring → Type 0
TakesNewestOf old at left right of ring =
    (a o : ℕ) → HasPanel old a → HasPanel old o
    → kept_in ring a o
    ≡ (if (a == at) && (o == of) then newest_of old at left right of else kept_in old a o)

-- a panel keeps a word of a panel; all else stays
abbrev pub Keeps : Ring → ℕ → ℕ → Word → Ring → Type 0
Keeps old at source word ring =
    (a o : ℕ) → HasPanel old a → HasPanel old o
    → kept_in ring a o ≡ (if (a == at) && (o == source) then word else kept_in old a o)

-- a panel keeps the word of a panel with another stamp; all else stays
abbrev pub Restamps : Ring → ℕ → ℕ → Tick → Ring → Type 0
Restamps old at source stamp = Keeps old at source (record (kept_in old at source) { stamp = stamp })

-- a panel keeps a word of a panel if it is newer; all else stays
abbrev pub KeepsNewest : Ring → ℕ → ℕ → Word → Ring → Type 0
KeepsNewest old at source word ring =
    (a o : ℕ) → HasPanel old a → HasPanel old o
    → kept_in ring a o
    ≡ (if (a == at) && (o == source) then newest (kept_in old a o) word else kept_in old a o)

-- the words that a panel keeps of other ones tell of the same zones as before
abbrev pub KeepsZones : Ring → ℕ → Ring → Type 0
KeepsZones old at ring =
    (of : ℕ) → HasPanel old of → of ≢ at → HasZonesOf (kept_in ring at of) (kept_in old at of)
