-- The faults that a panel shows after a turn, and the word that it tells the others.
use Rattle.std.specs.Prelude.{ℕ, Bool, not, List, [], ◌∷◌, ◌==◌, ◌||◌, slice_index, slice_index_or}
use Rattle.site_types.specs.declared.site.Site.{Site}
use Rattle.site_types.specs.declared.retained.Retained.{Retained}
use Rattle.site_types.specs.declared.fault_set.FaultSet.{FaultSet}
use Rattle.site_types.specs.declared.point_set.PointSet.{PointSet}
use Rattle.site_types.specs.declared.word.Word.{Word}
use Rattle.site_types.specs.Done.{Done}
use Rattle.coincidence_rules.specs.declared.finding.Finding.{Finding}
use Rattle.coincidence_rules.specs.Places.{zones_where}
use Rattle.site_types.specs.Words.{empty_word, no_faults}
use Rattle.panel_conditions.specs.declared.outside.Outside.{Outside}
use Rattle.panel_conditions.specs.declared.signs.Signs.{Signs}
use Rattle.panel_conditions.specs.Points.{points_where}
use Rattle.panel_conditions.specs.Turns.{HoldTurn, findings_taken}
use Rattle.panel_conditions.specs.Zones.{alarm_found, hand_found, release_found, first_found}
use Rattle.panel_conditions.specs.Missing.{shows_missing}

abbrev pub some_on_line : List ℕ → Bool
some_on_line halves = not (slice_index halves 0 == 0) || not (slice_index halves 1 == 0)

abbrev pub on_line : PointSet → ℕ → Bool
on_line set line = some_on_line (slice_index_or set.loops line [])

-- the set has a point
abbrev pub has_points : PointSet → Bool
has_points set = on_line set 0 || (on_line set 1 || (on_line set 2 || on_line set 3))

-- some fault is shown
abbrev pub has_fault : FaultSet → Bool
has_fault f =
    has_points f.missing
    || (not (f.broken == 0)
    || (not (f.shorted == 0)
    || (not (f.supply == 0)
    || (not (f.silent == 0) || (not (f.links == 0) || not (f.unconfirmed == 0))))))

-- the faults of a panel with these missing points, where the other parts tell this
abbrev pub with_missing : PointSet → Outside → FaultSet
with_missing missing outside =
    record {
      missing = missing;
      broken = outside.broken;
      shorted = outside.shorted;
      supply = outside.supply;
      silent = outside.silent;
      links = outside.links;
      unconfirmed = outside.unconfirmed;
    }

-- the word that these signs of the zones make at a tick
abbrev pub word_with : ℕ → Bool → Signs → Word
word_with tick fault signs =
    record {
      stamp = record { 0 = tick };
      alarm = signs.alarm;
      manual = signs.manual;
      released = signs.released;
      first = signs.first;
      fault = fault;
    }

-- the faults at a tick: missing points by the findings taken, the others as the other parts tell them
abbrev pub faults_at : Site → Retained → ℕ → List Done → List Finding → ℕ → Outside → FaultSet
faults_at site kept panel done taken tick outside =
    with_missing (points_where site panel (shows_missing site kept done taken tick)) outside

-- the word at a tick
abbrev pub word_at : Site → ℕ → List Done → List Finding → ℕ → Bool → Word
word_at site panel done taken tick fault =
    word_with tick fault
    (record {
      alarm = zones_where site panel (λ zone. alarm_found site done taken zone tick);
      manual = zones_where site panel (λ zone. hand_found site done taken zone tick);
      released = zones_where site panel (λ zone. release_found site done taken zone tick);
      first = zones_where site panel (λ zone. first_found site done taken zone tick);
    })

-- the faults shown after these turns
abbrev pub faults_after : Site → Retained → ℕ → List Done → List HoldTurn → FaultSet
faults_after site kept panel done [] = no_faults
faults_after site kept panel done (turn ∷ before) =
    faults_at site kept panel done (findings_taken (turn ∷ before)) turn.tick turn.outside

-- the word after these turns
abbrev pub word_after : Site → Retained → ℕ → List Done → List HoldTurn → Word
word_after site kept panel done [] = empty_word
word_after site kept panel done (turn ∷ before) =
    word_at site panel done (findings_taken (turn ∷ before)) turn.tick
    (has_fault (faults_after site kept panel done (turn ∷ before)))

-- the zones in alarm after these turns
abbrev pub alarms_after : Site → Retained → ℕ → List Done → List HoldTurn → ℕ
alarms_after site kept panel done turns = (word_after site kept panel done turns).alarm
