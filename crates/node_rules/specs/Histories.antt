-- What befalls a panel that runs by itself, one thing after another: moments of a run of its site in which nothing
-- befalls the other panels, and frames that come. In a history the newest stands first.
use Rattle.std.specs.Prelude.{ℕ, nat_le, List, [], ◌∷◌, length, if◌then◌else◌}
use Rattle.panel_links.specs.declared.frame.Frame.{Frame}
use Rattle.panel_rules.specs.Moments.{Moment, tick_of}
use Rattle.kept_words.specs.Arrivals.{Arrival, Came}

pub data NodeMoment : Type 0 where
  Befell : (moment : Moment) → NodeMoment
  FrameCame : (frame : Frame) → NodeMoment

-- what befell, but for frames
abbrev pub befallen : List NodeMoment → List Moment
befallen [] = []
befallen (Befell moment ∷ before) = moment ∷ befallen before
befallen (FrameCame frame ∷ before) = befallen before

-- the frames that came, each in the tick that began last
abbrev pub frames_in : List NodeMoment → List Arrival
frames_in [] = []
frames_in (Befell moment ∷ before) = frames_in before
frames_in (FrameCame frame ∷ before) = Came (tick_of (befallen before)) frame ∷ frames_in before

-- the part of a history in which at most so many moments befell, with the frames that came before the next one
abbrev pub part_until : ℕ → List NodeMoment → List NodeMoment
part_until count [] = []
part_until count (moment ∷ before) =
    if nat_le (length (befallen (moment ∷ before))) count then moment ∷ before else part_until count before

-- an earlier part of a history, or all of it
pub data IsPartOf (part : List NodeMoment) : List NodeMoment → Type 0 where
  whole : IsPartOf part part
  longer : (moment : NodeMoment) (before : List NodeMoment) → IsPartOf part before → IsPartOf part (moment ∷ before)
