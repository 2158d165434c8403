-- Faces that compare as equal are equal: by the test of the definitions, and by the one that the code runs.
use denote.Enum.Bare.{sameb}
use mathlib.Core.Bool.{beq}
use Rattle.std.proofs.Common.{◌≡◌, ◌∙◌, ◌&&◌, ◌==◌, ℕ, Bool, true, false, List, [], ◌∷◌, refl, ap}
use Rattle.std.specs.Cmp.Lexicographic.{pointwise}
use Rattle.std.proofs.lemmas.Bool.Decides.{Decides-eqb}
use Rattle.std.proofs.lemmas.Slice.Eq.{slice_eq-Decides}
use Rattle.site_types.specs.contracts.buzzer.Buzzer.{the_type}
use Rattle.site_types.specs.declared.buzzer.Buzzer.{Buzzer}
use Rattle.site_types.specs.declared.buzzer.Buzzer.TheVariants.{Off, Fault, Fire}
use Rattle.site_types.specs.declared.fault_set.FaultSet.{FaultSet}
use Rattle.site_types.specs.declared.point_set.PointSet.{PointSet}
use Rattle.face_text.specs.declared.face.Face.{Face}
use Rattle.face_text.proofs.EqualFaces.{faces_from, faults_from, points_from}
use Rattle.face_text.specs.Faces.{same_buzzer, same_face, same_faces, same_faults, same_truth}

both : (a b : Bool) → a && b ≡ true → (a ≡ true) × (b ≡ true)
both true true e = (refl, refl)
both true false e = cc
both false b e = cc

-- a truth is not both
pub no_truth : {A : Type 0} (b : Bool) → b ≡ false → b ≡ true → A
no_truth true f t = cc
no_truth false f t = cc

pub number : (a b : ℕ) → (a == b) ≡ true → a ≡ b
number a b e = (Decides-eqb a b).0 e

pub numbers : (a b : List ℕ) → pointwise (λ x y. x == y) a b ≡ true → a ≡ b
numbers a b e = (slice_eq-Decides Decides-eqb a b _ refl).0 e

lists : (a b : List (List ℕ)) → pointwise (pointwise (λ x y. x == y)) a b ≡ true → a ≡ b
lists a b e = (slice_eq-Decides (λ x y. slice_eq-Decides Decides-eqb x y _ refl) a b _ refl).0 e

pub truth : (a b : Bool) → beq a b ≡ true → a ≡ b
truth true true e = refl
truth false false e = refl
truth true false e = cc
truth false true e = cc

pub sound : (a b : Buzzer) → sameb the_type a b ≡ true → a ≡ b
sound Off Off e = refl
sound Fault Fault e = refl
sound Fire Fire e = refl
sound Off Fault e = cc
sound Off Fire e = cc
sound Fault Off e = cc
sound Fault Fire e = cc
sound Fire Off e = cc
sound Fire Fault e = cc

truth_is : (a b : Bool) → same_truth a b ≡ true → a ≡ b
truth_is true true e = refl
truth_is false false e = refl
truth_is true false e = cc
truth_is false true e = cc

sound_is : (a b : Buzzer) → same_buzzer a b ≡ true → a ≡ b
sound_is Off Off e = refl
sound_is Fault Fault e = refl
sound_is Fire Fire e = refl
sound_is Off Fault e = cc
sound_is Off Fire e = cc
sound_is Fault Off e = cc
sound_is Fault Fire e = cc
sound_is Fire Off e = cc
sound_is Fire Fault e = cc

pub points_is : (a b : PointSet) → pointwise (pointwise (λ x y. x == y)) a.loops b.loops ≡ true → a ≡ b
points_is a b e = points_from a b (lists a.loops b.loops e)

pub faults_is : (a b : FaultSet) → same_faults a b ≡ true → a ≡ b
faults_is a b e =
    let missing = both _ _ e in
    let broken = both _ _ missing.1 in
    let shorted = both _ _ broken.1 in
    let supply = both _ _ shorted.1 in
    let silent = both _ _ supply.1 in
    let links = both _ _ silent.1 in
    faults_from a b (points_is a.missing b.missing missing.0) (number a.broken b.broken broken.0) (number a.shorted b.shorted shorted.0)
    (number a.supply b.supply supply.0) (number a.silent b.silent silent.0) (number a.links b.links links.0)
    (number a.unconfirmed b.unconfirmed links.1)

-- two tests of truths and buzzers, each of which tells that they are equal
module _ (truths : Bool → Bool → Bool) (truths_are : (a b : Bool) → truths a b ≡ true → a ≡ b) (sounds : Buzzer → Buzzer → Bool) (sounds_are :
    (a b : Buzzer) → sounds a b ≡ true → a ≡ b) where
  abbrev pub faces_eq : Face → Face → Bool
  faces_eq a b =
      (a.panel == b.panel)
      && (pointwise (λ x y. x == y) a.zones b.zones && (pointwise (λ x y. x == y) a.firsts b.firsts && (same_faults a.faults b.faults
      && ((a.outputs == b.outputs) && ((a.confirmed == b.confirmed) && (pointwise (pointwise (λ x y. x == y)) a.points_off.loops b.points_off.loops
      && ((a.zones_off == b.zones_off)
      && ((a.outputs_off == b.outputs_off)
      && ((a.test == b.test) && (truths a.delays_off b.delays_off && (sounds a.buzzer b.buzzer && (a.counter == b.counter))))))))))))

  pub faces_are : (a b : Face) → faces_eq a b ≡ true → a ≡ b
  faces_are a b e =
      let panel = both _ _ e in
      let zones = both _ _ panel.1 in
      let firsts = both _ _ zones.1 in
      let faults = both _ _ firsts.1 in
      let outputs = both _ _ faults.1 in
      let confirmed = both _ _ outputs.1 in
      let points_off = both _ _ confirmed.1 in
      let zones_off = both _ _ points_off.1 in
      let outputs_off = both _ _ zones_off.1 in
      let test = both _ _ outputs_off.1 in
      let delays_off = both _ _ test.1 in
      let buzzer = both _ _ delays_off.1 in
      faces_from a b (number a.panel b.panel panel.0) (numbers a.zones b.zones zones.0) (numbers a.firsts b.firsts firsts.0)
      (faults_is a.faults b.faults faults.0) (number a.outputs b.outputs outputs.0) (number a.confirmed b.confirmed confirmed.0)
      (points_is a.points_off b.points_off points_off.0) (number a.zones_off b.zones_off zones_off.0)
      (number a.outputs_off b.outputs_off outputs_off.0) (number a.test b.test test.0) (truths_are a.delays_off b.delays_off delays_off.0)
      (sounds_are a.buzzer b.buzzer buzzer.0) (number a.counter b.counter buzzer.1)

-- as the code compares them
pub code_eq_is : (a b : Face) → faces_eq beq truth (sameb the_type) sound a b ≡ true → a ≡ b
code_eq_is = faces_are beq truth (sameb the_type) sound

-- as the definitions do
pub same_face_is : (a b : Face) → same_face a b ≡ true → a ≡ b
same_face_is = faces_are same_truth truth_is same_buzzer sound_is

pub same_faces_are : (a b : List Face) → same_faces a b ≡ true → a ≡ b
same_faces_are [] [] e = refl
same_faces_are [] (y ∷ ys) e = cc
same_faces_are (x ∷ xs) [] e = cc
same_faces_are (x ∷ xs) (y ∷ ys) e =
    let parts = both (same_face x y) (same_faces xs ys) e in
    ap (λ zs. x ∷ zs) (same_faces_are xs ys parts.1) ∙ ap (λ z. z ∷ ys) (same_face_is x y parts.0)
