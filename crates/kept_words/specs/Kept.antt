-- What calls make of what is kept, and what it then tells, whatever came before.
use Rattle.std.specs.Prelude.{◌≡◌, ◌≤◌, ◌+◌, ◌-◌, ℕ, ◌==◌, ◌&&◌, nat_lt, not, Bool, List, ◌∷◌, if◌then◌else◌}
use Rattle.site_types.specs.declared.word.Word.{Word}
use Rattle.site_types.specs.Bits.{mask_of}
use Rattle.panel_links.specs.declared.frame.Frame.{Frame}
use Rattle.panel_links.specs.Frames.{frame_of}
use Rattle.panel_links.specs.Kept.{newest}
use Rattle.kept_words.specs.declared.kept_words.KeptWords.{KeptWords}
use Rattle.kept_words.specs.Arrivals.{Arrival, Came, Made, counts_as_down, is_silent_from, last_from, word_kept}
use Rattle.kept_words.specs.Stands.{KeepsArrived, word_stored}

-- the panel made a word
abbrev pub HearsOwn : KeptWords → Word → KeptWords → Type 0
HearsOwn old own kept =
    (panels panel : ℕ) (arrivals : List Arrival) → KeepsArrived panels panel arrivals old
    → KeepsArrived panels panel (Made own ∷ arrivals) kept

-- a frame came in a tick
abbrev pub HearsFrame : KeptWords → ℕ → Frame → KeptWords → Type 0
HearsFrame old tick frame kept =
    (panels panel : ℕ) (arrivals : List Arrival) → KeepsArrived panels panel arrivals old
    → KeepsArrived panels panel (Came tick frame ∷ arrivals) kept

-- a word of a panel is kept if it is newer, and the panel another one than its own; all else stays
abbrev pub TakesNewer : KeptWords → ℕ → Word → KeptWords → Type 0
TakesNewer old of word kept =
    (source : ℕ) → 1 ≤ source → source ≤ 8
    → word_stored kept source
    ≡ (if not (of == old.panel) && (source == of) then newest (word_stored old source) word
    else word_stored old source)

-- what it tells is the word that is kept of a panel
abbrev pub TellsWord : KeptWords → ℕ → Word → Type 0
TellsWord kept of word =
    (panels panel : ℕ) (arrivals : List Arrival) → KeepsArrived panels panel arrivals kept
    → word ≡ word_kept panel of arrivals

-- the frame of a tick, with the words that are kept
abbrev pub TellsFrame : KeptWords → ℕ → Frame → Type 0
TellsFrame kept tick frame =
    (panels panel : ℕ) (arrivals : List Arrival) → KeepsArrived panels panel arrivals kept
    → frame ≡ frame_of panels (λ of. word_kept panel of arrivals) panel tick

-- the links that count as down, a bit each
abbrev pub TellsDown : KeptWords → ℕ → ℕ → ℕ → Type 0
TellsDown kept now limit mask =
    (panels panel : ℕ) (arrivals : List Arrival) → KeepsArrived panels panel arrivals kept
    → mask ≡ mask_of 8 (λ k. counts_as_down panels panel arrivals now limit (k + 1))

-- whether one does
abbrev pub TellsOfLink : KeptWords → ℕ → ℕ → ℕ → Bool → Type 0
TellsOfLink kept now limit link down =
    (panels panel : ℕ) (arrivals : List Arrival) → KeepsArrived panels panel arrivals kept
    → down ≡ counts_as_down panels panel arrivals now limit link

-- whether no frame of a panel came for more ticks than a limit
abbrev pub TellsOfSender : KeptWords → ℕ → ℕ → ℕ → Bool → Type 0
TellsOfSender kept now limit sender late =
    (panels panel : ℕ) (arrivals : List Arrival) → KeepsArrived panels panel arrivals kept
    → late ≡ nat_lt limit (now - last_from sender arrivals)

-- the panels of which nothing newer came for too long, a bit each
abbrev pub TellsSilent : KeptWords → ℕ → ℕ → ℕ → Type 0
TellsSilent kept now limit mask =
    (panels panel : ℕ) (arrivals : List Arrival) → KeepsArrived panels panel arrivals kept
    → mask ≡ mask_of 8 (λ k. is_silent_from panels panel arrivals now limit (k + 1))
