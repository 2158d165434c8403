-- When a point is missing by its answers: the last ones were silent, as many as the profile says.
use Rattle.std.specs.Prelude.{ℕ, zero, suc, Bool, true, false, List, [], ◌∷◌, filter, reverse, ◌==◌, ◌&&◌}
use Rattle.site_types.specs.declared.answer.Answer.{Answer}
use Rattle.site_types.specs.Profile.{missing_askings}
use Rattle.coincidence_rules.specs.Counted.{is_silent}

-- the answers of a point, the newest first
abbrev pub latest_of : ℕ → List Answer → List Answer
latest_of point answers = reverse (filter (λ answer. answer.point == point) answers)

-- there are so many first ones, and they are silent
abbrev pub begins_silent : ℕ → List Answer → Bool
begins_silent zero answers = true
begins_silent (suc n) [] = false
begins_silent (suc n) (answer ∷ answers) = is_silent answer.heard && begins_silent n answers

-- the last answers of the point were silent, as many as make it missing
abbrev pub is_missing : List Answer → ℕ → Bool
is_missing answers point = begins_silent missing_askings (latest_of point answers)
