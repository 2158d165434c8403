-- The words that panels keep of one another. A word is given by what had befallen when it was made: by the
-- moments up to that turn of its panel's Hold, and by none
-- for the empty word of the start.
use Rattle.std.specs.Prelude.{ℕ, ◌==◌, ◌&&◌, nat_lt, Bool, List, [], ◌∷◌, if◌then◌else◌}
use Rattle.tick_units.specs.declared.task.Task.TheVariants.{Hold, Link}
use Rattle.panel_links.specs.Words.{carries, left_of, right_of}
use Rattle.panel_rules.specs.Moments.{Moment, Began, Happened, Turned, Kept, tick_of}
use Rattle.panel_rules.specs.States.{is_up}

-- the latest word that a panel made
abbrev pub made_at : ℕ → List Moment → List Moment
made_at panel [] = []
made_at panel (Began ∷ before) = made_at panel before
made_at panel (Happened event ∷ before) = made_at panel before
made_at panel (Turned other Hold ∷ before) = if other == panel then Turned other Hold
    ∷ before else made_at panel before
made_at panel (Turned other task ∷ before) = made_at panel before
made_at panel (Kept failed ∷ before) = made_at panel before

-- another word is taken where it is newer
abbrev pub newer : List Moment → List Moment → List Moment
newer kept other = if nat_lt (tick_of kept) (tick_of other) then other else kept

-- what is taken from a neighbour over a link, where the link is up and the tick carries the word
abbrev pub taken_over : Bool → Bool → List Moment → List Moment → List Moment
taken_over up carried kept other = if up && carried then newer kept other else kept

-- the word of a panel that another one keeps; its own word is the latest that it made before its latest turn
-- of Link. What the panel on its left has is taken first
abbrev pub kept_at : ℕ → ℕ → ℕ → List Moment → List Moment
kept_at panels panel source [] = []
kept_at panels panel source (Began ∷ before) = kept_at panels panel source before
kept_at panels panel source (Happened event ∷ before) = kept_at panels panel source before
kept_at panels panel source (Turned other Link ∷ before) =
    if other == panel then taken_over (is_up panel before) (carries panels (tick_of before) source)
    (taken_over (is_up (left_of panels panel) before) (carries panels (tick_of before) source)
    (if panel == source then made_at panel before else kept_at panels panel source before)
    (kept_at panels (left_of panels panel) source before))
    (kept_at panels (right_of panels panel) source before) else kept_at panels panel source before
kept_at panels panel source (Turned other task ∷ before) = kept_at panels panel source before
kept_at panels panel source (Kept failed ∷ before) = kept_at panels panel source before

-- the stamp of the word kept
abbrev pub heard : ℕ → ℕ → ℕ → List Moment → ℕ
heard panels panel source before = tick_of (kept_at panels panel source before)
