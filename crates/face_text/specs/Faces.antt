-- The face of a panel that shows nothing, and the conditions that a face tells.
use Rattle.std.specs.Prelude.{◌≡◌, ◌-◌, ◌==◌, ◌&&◌, ◌||◌, ℕ, Bool, true, false, not, List, replicate, slice_index}
use Rattle.std.specs.List.{list_any}
use Rattle.std.specs.Cmp.Lexicographic.{pointwise}
use Rattle.std.specs.Str.{bytes_eq}
use Rattle.site_types.specs.declared.buzzer.Buzzer.{Buzzer}
use Rattle.site_types.specs.declared.buzzer.Buzzer.TheVariants.{Off, Fault, Fire}
use Rattle.site_types.specs.declared.fault_set.FaultSet.{FaultSet}
use Rattle.site_types.specs.declared.point_set.PointSet.{PointSet}
use Rattle.site_types.specs.Words.{no_faults}
use Rattle.site_types.specs.Bits.{no_set}
use Rattle.face_text.specs.declared.conditions.Conditions.{Conditions}
use Rattle.face_text.specs.declared.face.Face.{Face}

-- a face without zone, fault, output or setting: buzzer off, delays on, counter 0
abbrev pub empty_face : ℕ → Face
empty_face panel =
    record {
      panel = panel;
      zones = replicate 8 0;
      firsts = replicate 8 0;
      faults = no_faults;
      outputs = 0;
      confirmed = 0;
      points_off = no_set;
      zones_off = 0;
      outputs_off = 0;
      test = 0;
      delays_off = false;
      buzzer = Off;
      counter = 0;
    }

-- there is something in a mask
abbrev pub has_some : ℕ → Bool
has_some mask = not (mask == 0)

-- there is a point in a set
abbrev pub has_points : PointSet → Bool
has_points set = list_any (λ (halves : List ℕ). list_any has_some halves) set.loops

-- the fire alarm condition: a zone of the panel's own is in alarm
abbrev pub is_in_fire : Face → Bool
is_in_fire face = has_some (slice_index face.zones (face.panel - 1))

-- fault warning: a fault is shown
abbrev pub is_in_fault : FaultSet → Bool
is_in_fault faults =
    has_points faults.missing || has_some faults.broken || has_some faults.shorted || has_some faults.supply
    || has_some faults.silent || has_some faults.links
    || has_some faults.unconfirmed

-- the disabled condition: a point, a zone or an output is disabled, or the delays are off
abbrev pub is_in_disablement : Face → Bool
is_in_disablement face = has_points face.points_off || has_some face.zones_off || has_some face.outputs_off
    || face.delays_off

-- the test condition: a zone is in test
abbrev pub is_in_test : Face → Bool
is_in_test face = has_some face.test

-- the conditions of a panel, which stand together
abbrev pub conditions_of : Face → Conditions
conditions_of face = record {
  fire = is_in_fire face;
  fault = is_in_fault face.faults;
  disabled =
      is_in_disablement face;
  test = is_in_test face;
}

-- ---- two faces are the same

abbrev pub same_points : PointSet → PointSet → Bool
same_points one other = pointwise bytes_eq one.loops other.loops

abbrev pub same_faults : FaultSet → FaultSet → Bool
same_faults one other =
    same_points one.missing other.missing
    && ((one.broken == other.broken)
    && ((one.shorted == other.shorted)
    && ((one.supply == other.supply)
    && ((one.silent == other.silent)
    && ((one.links == other.links) && (one.unconfirmed == other.unconfirmed))))))

abbrev pub same_truth : Bool → Bool → Bool
same_truth true other = other
same_truth false other = not other

abbrev pub same_buzzer : Buzzer → Buzzer → Bool
same_buzzer Off Off = true
same_buzzer Fault Fault = true
same_buzzer Fire Fire = true
same_buzzer _ _ = false

-- two faces show the same
abbrev pub same_face : Face → Face → Bool
same_face one other =
    (one.panel == other.panel)
    && (bytes_eq one.zones other.zones
    && (bytes_eq one.firsts other.firsts && (same_faults one.faults other.faults
    && ((one.outputs == other.outputs)
    && ((one.confirmed == other.confirmed) && (same_points one.points_off other.points_off
    && ((one.zones_off == other.zones_off)
    && ((one.outputs_off == other.outputs_off) && ((one.test == other.test)
    && (same_truth one.delays_off other.delays_off
    && (same_buzzer one.buzzer other.buzzer && (one.counter == other.counter))))))))))))

-- they show the same outputs, disablements of things and zones in test
abbrev pub ShowSameRest : Face → Face → Type 0
ShowSameRest one other =
    (one.outputs ≡ other.outputs) × (one.confirmed ≡ other.confirmed) × (one.points_off ≡ other.points_off)
    × (one.zones_off ≡ other.zones_off) × (one.outputs_off ≡ other.outputs_off) × (one.test ≡ other.test)

-- the faces of all panels show the same
abbrev pub same_faces : List Face → List Face → Bool
same_faces one other = pointwise same_face one other
