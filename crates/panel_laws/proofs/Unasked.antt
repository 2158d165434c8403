-- An output that nobody asks is off.
use Rattle.std.proofs.Common.{◌≡◌, ℕ, List, [], ◌∷◌, Bool, true, false, if◌then◌else◌, refl}
use Rattle.tick_units.specs.declared.task.Task.{Task}
use Rattle.tick_units.specs.declared.task.Task.TheVariants.{Drive}
use Rattle.panel_rules.specs.Moments.{Moment, Began, Happened, Turned, Kept, is_turn}
use Rattle.panel_rules.specs.Latest.{made_latest}
use Rattle.panel_rules.specs.Outputs.{panel_of_output, is_requested, goes_on}
use Rattle.panel_rules.specs.OutputLaws.{UnaskedIsOff}

-- what makes false makes the other false
both_off : (panel : ℕ) (task : Task) (f g : List Moment → Bool) (m : List Moment) → ((b : List Moment) → f b ≡ false → g b ≡ false)
    → made_latest false panel task f m ≡ false → made_latest false panel task g m ≡ false
both_off panel task f g [] h e = refl
both_off panel task f g (Began ∷ before) h e = both_off panel task f g before h e
both_off panel task f g (Happened event ∷ before) h e = both_off panel task f g before h e
both_off panel task f g (Turned other_panel other ∷ before) h e = go (is_turn panel task other_panel other) (both_off panel task f g before h) e
  where
    go : (t : Bool) → (made_latest false panel task f before ≡ false → made_latest false panel task g before ≡ false)
        → (if t then f before else made_latest false panel task f before) ≡ false
        → (if t then g before else made_latest false panel task g before) ≡ false
    go true ih e = h before e
    go false ih e = ih e
both_off panel task f g (Kept failed ∷ before) h e = both_off panel task f g before h e

pub unasked_is_off : UnaskedIsOff
unasked_is_off site facts kept done output moments e =
    both_off (panel_of_output site output) Drive (is_requested site facts output) (goes_on site facts kept done output) moments (λ b f. rw f refl) e
