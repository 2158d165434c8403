-- Faces and fault sets whose parts are equal are equal.
use Rattle.std.proofs.Common.{◌≡◌, ℕ, Bool, List, refl}
use Rattle.site_types.specs.declared.buzzer.Buzzer.{Buzzer}
use Rattle.site_types.specs.declared.fault_set.FaultSet.{FaultSet}
use Rattle.site_types.specs.declared.point_set.PointSet.{PointSet}
use Rattle.face_text.specs.declared.face.Face.{Face}

pub points_from : (a b : PointSet) → a.loops ≡ b.loops → a ≡ b
points_from a b e = let h : ◌≡◌ {A = PointSet} (record { loops = a.loops }) (record { loops = b.loops }) = rw e refl in h

pub faults_from : (a b : FaultSet) → a.missing ≡ b.missing → a.broken ≡ b.broken → a.shorted ≡ b.shorted → a.supply ≡ b.supply → a.silent ≡ b.silent
    → a.links ≡ b.links → a.unconfirmed ≡ b.unconfirmed → a ≡ b
faults_from a b missing broken shorted supply silent links unconfirmed =
    let h :
    ◌≡◌ {A = FaultSet}
    (record {
      missing = a.missing;
      broken = a.broken;
      shorted = a.shorted;
      supply = a.supply;
      silent = a.silent;
      links = a.links;
      unconfirmed =
          a.unconfirmed;
    })
    (record {
      missing = b.missing;
      broken = b.broken;
      shorted = b.shorted;
      supply = b.supply;
      silent = b.silent;
      links = b.links;
      unconfirmed =
          b.unconfirmed;
    })
    = rw (missing, broken, shorted, supply, silent, links, unconfirmed) refl in h

abbrev face_with : ℕ → List ℕ → List ℕ → FaultSet → ℕ → ℕ → PointSet → ℕ → ℕ → ℕ → Bool → Buzzer → ℕ → Face
face_with panel zones firsts faults outputs confirmed points_off zones_off outputs_off test delays_off buzzer counter =
    record {
      panel = panel;
      zones = zones;
      firsts = firsts;
      faults = faults;
      outputs = outputs;
      confirmed = confirmed;
      points_off = points_off;
      zones_off = zones_off;
      outputs_off = outputs_off;
      test = test;
      delays_off = delays_off;
      buzzer = buzzer;
      counter = counter;
    }

pub faces_from : (a b : Face) → a.panel ≡ b.panel → a.zones ≡ b.zones → a.firsts ≡ b.firsts → a.faults ≡ b.faults → a.outputs ≡ b.outputs
    → a.confirmed ≡ b.confirmed → a.points_off ≡ b.points_off →
    a.zones_off ≡ b.zones_off → a.outputs_off ≡ b.outputs_off → a.test ≡ b.test → a.delays_off ≡ b.delays_off → a.buzzer ≡ b.buzzer
    → a.counter ≡ b.counter → a ≡ b
faces_from a b panel zones firsts faults outputs confirmed points_off zones_off outputs_off test delays_off buzzer counter =
    let h :
    face_with a.panel a.zones a.firsts a.faults a.outputs a.confirmed a.points_off a.zones_off a.outputs_off a.test a.delays_off a.buzzer a.counter
    ≡ face_with b.panel b.zones b.firsts b.faults b.outputs b.confirmed b.points_off b.zones_off b.outputs_off b.test b.delays_off b.buzzer b.counter
    = rw (panel, zones, firsts, faults, outputs, confirmed, points_off, zones_off, outputs_off, test, delays_off, buzzer, counter) refl in h
