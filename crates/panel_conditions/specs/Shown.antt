-- What of a panel's own is newly shown at a turn, when its buzzer sounds, and how often it entered the fire
-- alarm condition. Each zone in alarm, each first state and each fault is one thing.
use Rattle.std.specs.Prelude.{ℕ, ◌+◌, Bool, not, List, [], ◌∷◌, slice_index, slice_index_or, ◌==◌}
use Rattle.std.specs.Prelude.{◌&&◌, ◌||◌, nat_lt, if◌then◌else◌}
use Rattle.site_types.specs.declared.site.Site.{Site}
use Rattle.site_types.specs.declared.retained.Retained.{Retained}
use Rattle.site_types.specs.declared.buzzer.Buzzer.{Buzzer}
use Rattle.site_types.specs.declared.buzzer.Buzzer.TheVariants.{Off, Fault, Fire}
use Rattle.site_types.specs.declared.fault_set.FaultSet.{FaultSet}
use Rattle.site_types.specs.declared.point_set.PointSet.{PointSet}
use Rattle.site_types.specs.declared.word.Word.{Word}
use Rattle.site_types.specs.Bits.{any_below, has_bit}
use Rattle.site_types.specs.Done.{Done, muted_before}
use Rattle.panel_conditions.specs.Turns.{HoldTurn, latest_tick}
use Rattle.panel_conditions.specs.Words.{faults_after, word_after}

-- one mask, of so many bits, has a bit that the other hasn't
abbrev pub has_more : ℕ → ℕ → ℕ → Bool
has_more bits shown before = any_below bits (λ k. has_bit shown k && not (has_bit before k))

-- one loop, of two numbers, has a bit that the other hasn't
abbrev pub line_has_more : List ℕ → List ℕ → Bool
line_has_more shown before =
    has_more 128 (slice_index shown 0) (slice_index before 0)
    || has_more 128 (slice_index shown 1) (slice_index before 1)

abbrev pub on_lines : PointSet → PointSet → ℕ → Bool
on_lines shown before line =
    line_has_more (slice_index_or shown.loops line []) (slice_index_or before.loops line [])

-- one set has a point that the other hasn't
abbrev pub has_more_points : PointSet → PointSet → Bool
has_more_points shown before =
    on_lines shown before 0
    || (on_lines shown before 1 || (on_lines shown before 2 || on_lines shown before 3))

-- a fault is shown that was not shown before
abbrev pub has_more_faults : FaultSet → FaultSet → Bool
has_more_faults shown before =
    has_more_points shown.missing before.missing
    || (has_more 8 shown.broken before.broken
    || (has_more 8 shown.shorted before.shorted || (has_more 8 shown.supply before.supply
    || (has_more 8 shown.silent before.silent
    || (has_more 8 shown.links before.links || has_more 32 shown.unconfirmed before.unconfirmed)))))

-- a zone in alarm, a first state or a fault is shown that was not shown before
abbrev pub is_news : Word → FaultSet → Word → FaultSet → Bool
is_news word faults word_before faults_before =
    has_more 32 word.alarm word_before.alarm
    || (has_more 32 word.first word_before.first || has_more_faults faults faults_before)

-- the last tick at which something was newly shown, else 0
abbrev pub last_news : Site → Retained → ℕ → List Done → List HoldTurn → ℕ
last_news site kept panel done [] = 0
last_news site kept panel done (turn ∷ before) =
    if is_news (word_after site kept panel done (turn ∷ before))
    (faults_after site kept panel done (turn ∷ before)) (word_after site kept panel done before)
    (faults_after site kept panel done before)
    then turn.tick
    else last_news site kept panel done before

-- the panel is in the fire alarm condition
abbrev pub is_in_fire_alarm : Word → Bool
is_in_fire_alarm word = not (word.alarm == 0)

-- a zone in alarm or a first state is shown
abbrev pub shows_fire : Word → Bool
shows_fire word = not (word.alarm == 0) || not (word.first == 0)

-- what the buzzer sounds, by whether anything was newly shown after the last mute
abbrev pub sounds : Word → Bool → Buzzer
sounds word unmuted =
    if unmuted then (if shows_fire word then Fire else (if word.fault then Fault else Off)) else Off

-- the buzzer after these turns: the last mute is one that was done before the latest turn's tick
abbrev pub buzzer_after : Site → Retained → ℕ → List Done → List HoldTurn → Buzzer
buzzer_after site kept panel done turns =
    sounds (word_after site kept panel done turns)
    (nat_lt (muted_before panel (latest_tick turns) done) (last_news site kept panel done turns))

-- how often the panel entered the fire alarm condition
abbrev pub entries_after : Site → Retained → ℕ → List Done → List HoldTurn → ℕ
entries_after site kept panel done [] = 0
entries_after site kept panel done (turn ∷ before) =
    entries_after site kept panel done before
    + (if is_in_fire_alarm (word_after site kept panel done (turn ∷ before))
    && not (is_in_fire_alarm (word_after site kept panel done before)) then 1 else 0)
