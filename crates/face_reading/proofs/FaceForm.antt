-- Faces in form: the empty face is, and what a change makes of a face in form.
use Rattle.std.proofs.Common.{◌≡◌, ◌≤◌, ◌+◌, ◌-◌, ◌&&◌, ℕ, Bool, true, false, List, [], ◌∷◌, get_or, map, replicate, refl, sym, ◌∙◌, ap, subst, arith}
use Rattle.std.specs.Int.{Width, w8, w32}
use Rattle.std.specs.Prelude.{not}
use mir.Val.{bits}
use Rattle.site_types.specs.Limits.{greatest_count}
use Rattle.std.specs.List.{range_with_len}
use Rattle.std.proofs.lemmas.List.{get_or-replicate}
use Rattle.site_types.specs.declared.point_set.PointSet.{PointSet}
use Rattle.site_types.specs.declared.site.Site.{Site}
use Rattle.site_types.specs.Bits.{has_bit, has_point, mask_of, no_set, with_bit, with_point}
use Rattle.site_types.proofs.Masks.{has_bit-zero}
use Rattle.face_text.specs.declared.face.Face.{Face}
use Rattle.face_text.specs.declared.group.Group.{Group}
use Rattle.face_text.specs.declared.group.Group.TheVariants.{Zones, Firsts, Missing, Broken, Shorted, Supplies, Silent, Links, Unconfirmed, Outputs, Confirmed, PointsOff, ZonesOff, OutputsOff, Tests}
use Rattle.face_text.specs.Faces.{empty_face}
use Rattle.face_text.specs.Slots.{HasPlace, is_named, last_of, name_in}
use Rattle.face_text.specs.Timelines.{IsFaceOf, kept_points, of_site}
use Rattle.face_text.proofs.EqualFaces.{faces_from, faults_from, points_from}
use Rattle.face_reading.specs.declared.change.Change.{Change}
use Rattle.face_reading.specs.declared.change.Change.TheVariants.{Thing as ThingChange, Delays as DelaysChange, Buzzer as BuzzerChange, Counter as CounterChange}
use Rattle.face_reading.specs.Entries.{IsChange}
use Rattle.face_reading.proofs.FaceTelling.{KeepsForm}
use Rattle.face_reading.specs.Telling.{face_told, with_bit_of_panel, with_thing}
use Rattle.face_reading.proofs.KeptMasks.{bit_kept, by_number, less_one, none_kept, panels_kept}
use Rattle.face_reading.proofs.KeptPoints.{holds_named, holds_none, holds_told, loops_kept}
use Rattle.face_reading.proofs.ChangedSlots.{with_thing_keeps}

-- the site has a name for the thing of a group on the page of a panel
abbrev pub named : Site → ℕ → Group → ℕ → Bool
named site panel group number = is_named (name_in site panel group number)

-- a mask of its own
scalar_kept : (w : Width) (count mask number : ℕ) (on : Bool) (names : ℕ → Bool) → count ≤ bits w → 1 ≤ number → number ≤ count
    → mask ≡ mask_of count (λ k. names (1 + k) && has_bit mask (1 + k - 1)) → names number ≡ true →
    with_bit w mask (number - 1) on ≡ mask_of count (λ k. names (1 + k) && has_bit (with_bit w mask (number - 1) on) (1 + k - 1))
scalar_kept w count mask number on names fits low high whole is =
    let place : 1 + (number - 1) ≡ number = omega (arith, low) in
    bit_kept w count mask (number - 1) on (λ k. names (1 + k)) (λ k. has_bit mask (1 + k - 1))
    (λ k. has_bit (with_bit w mask (number - 1) on) (1 + k - 1)) fits (omega (arith, low, high))
    (λ i small. ap (has_bit mask) (less_one i)) (λ i small. ap (has_bit (with_bit w mask (number - 1) on)) (less_one i)) whole (ap names place ∙ is)

-- ---- what a change of a thing leaves in form

told_thing : (site : Site) (face : Face) (group : Group) (number : ℕ) (on : Bool) → face ≡ of_site site face → HasPlace group → 1 ≤ number
    → number ≤ last_of group → named site face.panel group number ≡ true →
    with_thing face group number on ≡ of_site site (with_thing face group number on)
told_thing site face (Zones panel) number on form place low high is =
    let masks = with_bit_of_panel face.zones panel number on in
    let kept = panels_kept (λ q n. named site face.panel (Zones q) n) face.zones panel number on (ap (λ (f : Face). f.zones) form) place.0 place.1 low
    high is in
    ap (λ (f : Face). record f { zones = masks }) form ∙ ap (λ (x : List ℕ). record (of_site site face) { zones = x }) kept
told_thing site face (Firsts panel) number on form place low high is =
    let masks = with_bit_of_panel face.firsts panel number on in
    let kept = panels_kept (λ q n. named site face.panel (Firsts q) n) face.firsts panel number on (ap (λ (f : Face). f.firsts) form) place.0 place.1
    low high is in
    ap (λ (f : Face). record f { firsts = masks }) form ∙ ap (λ (x : List ℕ). record (of_site site face) { firsts = x }) kept
told_thing site face (Missing line) number on form place low high is =
    let all = λ (l a : ℕ). named site face.panel (Missing l) a in
    let holds = holds_named all face.faults.missing (ap (λ (f : Face). f.faults.missing.loops) form) in
    let points = with_point face.faults.missing line number on in
    let kept =
    points_from points (kept_points site (with_thing face (Missing line) number on) Missing)
    (loops_kept all points (holds_told all face.faults.missing line number on holds (place.0, place.1, low, high) is)) in
    ap (λ (f : Face). record f { faults = record f.faults { missing = points } }) form ∙ ap (λ (x : PointSet). record (of_site site face) {
      faults =
          record (of_site site face).faults { missing = x };
    }) kept
told_thing site face (PointsOff line) number on form place low high is =
    let all = λ (l a : ℕ). named site face.panel (PointsOff l) a in
    let holds = holds_named all face.points_off (ap (λ (f : Face). f.points_off.loops) form) in
    let points = with_point face.points_off line number on in
    let kept =
    points_from points (kept_points site (with_thing face (PointsOff line) number on) PointsOff)
    (loops_kept all points (holds_told all face.points_off line number on holds (place.0, place.1, low, high) is)) in
    ap (λ (f : Face). record f { points_off = points }) form ∙ ap (λ (x : PointSet). record (of_site site face) { points_off = x }) kept
told_thing site face Broken number on form place low high is =
    let kept =
    scalar_kept w8 4 face.faults.broken number on (named site face.panel Broken) (omega arith) low high (ap (λ (f : Face). f.faults.broken) form)
    is in
    ap (λ (f : Face). record f { faults = record f.faults { broken = with_bit w8 face.faults.broken (number - 1) on } }) form ∙ ap
    (λ (x : ℕ). record (of_site site face) { faults = record (of_site site face).faults { broken = x } }) kept
told_thing site face Shorted number on form place low high is =
    let kept =
    scalar_kept w8 4 face.faults.shorted number on (named site face.panel Shorted) (omega arith) low high
    (ap (λ (f : Face). f.faults.shorted) form) is in
    ap (λ (f : Face). record f { faults = record f.faults { shorted = with_bit w8 face.faults.shorted (number - 1) on } }) form ∙ ap
    (λ (x : ℕ). record (of_site site face) { faults = record (of_site site face).faults { shorted = x } }) kept
told_thing site face Supplies number on form place low high is =
    let kept =
    scalar_kept w8 4 face.faults.supply number on (named site face.panel Supplies) (omega arith) low high
    (ap (λ (f : Face). f.faults.supply) form) is in
    ap (λ (f : Face). record f { faults = record f.faults { supply = with_bit w8 face.faults.supply (number - 1) on } }) form ∙ ap
    (λ (x : ℕ). record (of_site site face) { faults = record (of_site site face).faults { supply = x } }) kept
told_thing site face Silent number on form place low high is =
    let kept =
    scalar_kept w8 8 face.faults.silent number on (named site face.panel Silent) (omega arith) low high (ap (λ (f : Face). f.faults.silent) form)
    is in
    ap (λ (f : Face). record f { faults = record f.faults { silent = with_bit w8 face.faults.silent (number - 1) on } }) form ∙ ap
    (λ (x : ℕ). record (of_site site face) { faults = record (of_site site face).faults { silent = x } }) kept
told_thing site face Links number on form place low high is =
    let kept =
    scalar_kept w8 8 face.faults.links number on (named site face.panel Links) (omega arith) low high (ap (λ (f : Face). f.faults.links) form) is
    in
    ap (λ (f : Face). record f { faults = record f.faults { links = with_bit w8 face.faults.links (number - 1) on } }) form ∙ ap
    (λ (x : ℕ). record (of_site site face) { faults = record (of_site site face).faults { links = x } }) kept
told_thing site face Unconfirmed number on form place low high is =
    let kept =
    scalar_kept w32 32 face.faults.unconfirmed number on (named site face.panel Unconfirmed) (omega arith) low high
    (ap (λ (f : Face). f.faults.unconfirmed) form) is in
    ap (λ (f : Face). record f { faults = record f.faults { unconfirmed = with_bit w32 face.faults.unconfirmed (number - 1) on } }) form ∙ ap
    (λ (x : ℕ). record (of_site site face) { faults = record (of_site site face).faults { unconfirmed = x } }) kept
told_thing site face Outputs number on form place low high is =
    let kept = scalar_kept w32 32 face.outputs number on (named site face.panel Outputs) (omega arith) low high (ap (λ (f : Face). f.outputs) form) is
    in
    ap (λ (f : Face). record f { outputs = with_bit w32 face.outputs (number - 1) on }) form ∙ ap
    (λ (x : ℕ). record (of_site site face) { outputs = x }) kept
told_thing site face Confirmed number on form place low high is =
    let kept =
    scalar_kept w32 32 face.confirmed number on (named site face.panel Confirmed) (omega arith) low high (ap (λ (f : Face). f.confirmed) form) is
    in
    ap (λ (f : Face). record f { confirmed = with_bit w32 face.confirmed (number - 1) on }) form ∙ ap
    (λ (x : ℕ). record (of_site site face) { confirmed = x }) kept
told_thing site face ZonesOff number on form place low high is =
    let kept =
    scalar_kept w32 32 face.zones_off number on (named site face.panel ZonesOff) (omega arith) low high (ap (λ (f : Face). f.zones_off) form) is
    in
    ap (λ (f : Face). record f { zones_off = with_bit w32 face.zones_off (number - 1) on }) form ∙ ap
    (λ (x : ℕ). record (of_site site face) { zones_off = x }) kept
told_thing site face OutputsOff number on form place low high is =
    let kept =
    scalar_kept w32 32 face.outputs_off number on (named site face.panel OutputsOff) (omega arith) low high
    (ap (λ (f : Face). f.outputs_off) form) is in
    ap (λ (f : Face). record f { outputs_off = with_bit w32 face.outputs_off (number - 1) on }) form ∙ ap
    (λ (x : ℕ). record (of_site site face) { outputs_off = x }) kept
told_thing site face Tests number on form place low high is =
    let kept = scalar_kept w32 32 face.test number on (named site face.panel Tests) (omega arith) low high (ap (λ (f : Face). f.test) form) is in
    ap (λ (f : Face). record f { test = with_bit w32 face.test (number - 1) on }) form ∙ ap (λ (x : ℕ). record (of_site site face) { test = x }) kept

change_kept : (site : Site) (panel : ℕ) (face : Face) (change : Change) → IsFaceOf site panel face → IsChange site panel change
    → IsFaceOf site panel (face_told face change)
change_kept site panel face (ThingChange group number on) form is =
    let keeps = with_thing_keeps face group number on in
    let count = form.counter in
    record {
      panel_is = keeps.0 ∙ form.panel_is;
      of_the_site =
          told_thing site face group number on form.of_the_site is.0 is.1 is.2
          (subst (λ p. named site p group number ≡ true) (sym form.panel_is) is.3);
      counter = subst (λ n. n ≤ greatest_count) (sym keeps.3) count;
    }
change_kept site panel face (DelaysChange on) form is =
    record { panel_is = form.panel_is; of_the_site = ap (λ (f : Face). record f { delays_off = not on }) form.of_the_site; counter = form.counter }
change_kept site panel face (BuzzerChange sound) form is =
    record { panel_is = form.panel_is; of_the_site = ap (λ (f : Face). record f { buzzer = sound }) form.of_the_site; counter = form.counter }
change_kept site panel face (CounterChange count) form is =
    record { panel_is = form.panel_is; of_the_site = ap (λ (f : Face). record f { counter = count }) form.of_the_site; counter = is }

-- ---- the empty face

and_false : (b : Bool) → (b && false) ≡ false
and_false true = refl
and_false false = refl

none_of : (count : ℕ) (names : ℕ → Bool) (mask : ℕ) → mask ≡ 0 → 0 ≡ mask_of count (λ k. names (1 + k) && has_bit mask (1 + k - 1))
none_of count names mask none =
    none_kept count (λ k. names (1 + k) && has_bit mask (1 + k - 1))
    (λ k small. ap (λ b. names (1 + k) && b) (ap (λ m. has_bit m (1 + k - 1)) none ∙ has_bit-zero (1 + k - 1)) ∙ and_false (names (1 + k)))

none_by_panel : (names : ℕ → ℕ → Bool)
    → replicate 8 0 ≡ map (λ q. mask_of 32 (λ k. names q (1 + k) && has_bit (get_or (replicate 8 0) (q - 1) 0) (1 + k - 1))) (range_with_len 1 8)
none_by_panel names =
    by_number 0 (replicate 8 0) (λ q. mask_of 32 (λ k. names q (1 + k) && has_bit (get_or (replicate 8 0) (q - 1) 0) (1 + k - 1))) 8 refl
    (λ q low high.
    let none : get_or (replicate 8 0) (q - 1) 0 ≡ 0 = get_or-replicate 8 (q - 1) 0 0 (omega (arith, low, high)) in
    none ∙ none_of 32 (names q) (get_or (replicate 8 0) (q - 1) 0) none)

no_points_kept : (site : Site) (panel : ℕ) (group : ℕ → Group)
    → no_set.loops ≡ map (λ line. mask_of 96 (λ k. named site panel (group line) (1 + k) && has_point no_set line (1 + k))
    ∷ mask_of 96 (λ k. named site panel (group line) (97 + k) && has_point no_set line (97 + k)) ∷ []) (range_with_len 1 4)
no_points_kept site panel group =
    loops_kept (λ line address. named site panel (group line) address) no_set (holds_none (λ line address. named site panel (group line) address))

none_is_kept : (site : Site) (panel : ℕ) → empty_face panel ≡ of_site site (empty_face panel)
none_is_kept site panel =
    let face = empty_face panel in
    let kept = of_site site face in
    faces_from face kept refl (none_by_panel (λ q n. named site panel (Zones q) n)) (none_by_panel (λ q n. named site panel (Firsts q) n))
    (faults_from face.faults kept.faults (points_from no_set kept.faults.missing (no_points_kept site panel Missing))
    (none_of 4 (named site panel Broken) 0 refl) (none_of 4 (named site panel Shorted) 0 refl)
    (none_of 4 (named site panel Supplies) 0 refl) (none_of 8 (named site panel Silent) 0 refl) (none_of 8 (named site panel Links) 0 refl)
    (none_of 32 (named site panel Unconfirmed) 0 refl))
    (none_of 32 (named site panel Outputs) 0 refl) (none_of 32 (named site panel Confirmed) 0 refl)
    (points_from no_set kept.points_off (no_points_kept site panel PointsOff))
    (none_of 32 (named site panel ZonesOff) 0 refl) (none_of 32 (named site panel OutputsOff) 0 refl) (none_of 32 (named site panel Tests) 0 refl)
    refl refl refl

pub keeps_form : KeepsForm
keeps_form =
    record {
      empty = λ site panel. record { panel_is = refl; of_the_site = none_is_kept site panel; counter = omega arith };
      told = change_kept;
    }
