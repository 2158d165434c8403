-- A face all of whose masks have only bits of things of the site is what is left of it.
use Rattle.std.proofs.Common.{◌≡◌, ℕ, zero, suc, ◌+◌, ◌-◌, ◌<◌, ◌≤◌, ◌&&◌, Bool, List, [], ◌∷◌, map, refl, sym, ◌∙◌, ap, arith}
use Rattle.std.specs.Prelude.{slice_index, slice_index_or}
use Rattle.std.specs.List.{range_with_len}
use Rattle.std.proofs.Math.Path.{fun_ext}
use Rattle.std.proofs.lemmas.List.FromFn.{get_or-map-range_with_len}
use Rattle.site_types.specs.declared.fault_set.FaultSet.{FaultSet}
use Rattle.site_types.specs.declared.point_set.PointSet.{PointSet}
use Rattle.site_types.specs.declared.site.Site.{Site}
use Rattle.site_types.specs.Bits.{bit_of, half_of, has_bit, has_point, mask_of}
use Rattle.site_types.specs.Events.{is_link, is_panel}
use Rattle.face_text.specs.declared.face.Face.{Face}
use Rattle.face_text.specs.declared.group.Group.{Group}
use Rattle.face_text.specs.declared.group.Group.TheVariants.{Zones, Firsts, Missing, Broken, Shorted, Supplies, Silent, Links, Unconfirmed, Outputs, Confirmed, PointsOff, ZonesOff, OutputsOff, Tests}
use Rattle.face_text.specs.Slots.{has_loop, is_named, name_in, number_if, output_name, point_name, shows, supply_name, zone_name}
use Rattle.face_text.proofs.EqualFaces.{faces_from, faults_from}
use Rattle.face_text.specs.Timelines.{kept_of, kept_points, of_site}
use Rattle.panel_conditions.specs.Points.{addresses_where, points_where}
use Rattle.panel_laws.proofs.NamedMasks.{HasNames, bit_is, kept_is, points_named}

-- ---- points

low_half : (set : PointSet) (line a b k : ℕ) → slice_index_or set.loops (line - 1) [] ≡ a ∷ b ∷ [] → k < 96 → has_point set line (1 + k) ≡ has_bit a k
low_half set line a b k e small =
    let half : half_of (1 + k) ≡ 0 = omega (arith, small) in
    let bit : bit_of (1 + k) ≡ k = omega (arith, small) in
    ap (λ halves. has_bit (slice_index halves (half_of (1 + k))) (bit_of (1 + k))) e
    ∙ ap (λ n. has_bit (slice_index (a ∷ b ∷ []) n) (bit_of (1 + k))) half
    ∙ ap (λ n. has_bit a n) bit

high_half : (set : PointSet) (line a b k : ℕ) → slice_index_or set.loops (line - 1) [] ≡ a ∷ b ∷ [] → k < 96
    → has_point set line (97 + k) ≡ has_bit b k
high_half set line a b k e small =
    let half : half_of (97 + k) ≡ 1 = omega (arith, small) in
    let bit : bit_of (97 + k) ≡ k = omega (arith, small) in
    ap (λ halves. has_bit (slice_index halves (half_of (97 + k))) (bit_of (97 + k))) e
    ∙ ap (λ n. has_bit (slice_index (a ∷ b ∷ []) n) (bit_of (97 + k))) half
    ∙ ap (λ n. has_bit b n) bit

same_set : (a b c d a' b' c' d' : List ℕ) → a ≡ a' → b ≡ b' → c ≡ c' → d ≡ d' →
    ◌≡◌ {A = PointSet} (record { loops = a ∷ b ∷ c ∷ d ∷ [] }) (record { loops = a' ∷ b' ∷ c' ∷ d' ∷ [] })
same_set a b c d a' b' c' d' p q r s = cc

-- the points of a panel that pass some test
pub record ArePoints (site : Site) (panel : ℕ) (set : PointSet) : Type 0 where
  pub test : ℕ → Bool
  pub is : set ≡ points_where site panel test

module _ (site : Site) (face : Face) (group : ℕ → Group) (set : PointSet) (points : ArePoints site face.panel set)
    (shown : (line number : ℕ) → shows face (group line) number ≡ has_point set line number)
    (name : (line number : ℕ) → name_in site face.panel (group line) number ≡ point_name site face.panel line number) where
  abbrev half : ℕ → ℕ → ℕ
  half line past = addresses_where site face.panel points.test line past

  half_kept : (line past from : ℕ) → from ≡ past + 1 → ((k : ℕ) → k < 96 → has_point set line (from + k) ≡ has_bit (half line past) k)
      → half line past ≡ kept_of site face (group line) from 96
  half_kept line past from begins bits =
      kept_is 96 (λ k. is_named (name_in site face.panel (group line) (from + k))) (λ k. shows face (group line) (from + k)) (half line past)
      (points_named site face.panel line past from points.test begins ∙ ap
      (λ (named : ℕ → Bool). mask_of 96 (λ k. named k && has_bit (half line past) k)) (named_same line from))
      (λ k small. shown line (from + k) ∙ bits k small)
    where
      named_same : (line from : ℕ)
          → ◌≡◌ {A = ℕ → Bool} (λ k. is_named (point_name site face.panel line (from + k)))
          (λ k. is_named (name_in site face.panel (group line) (from + k)))
      named_same line from = fun_ext (λ k. ap is_named (sym (name line (from + k))))

  line_kept : (line : ℕ) → slice_index_or set.loops (line - 1) [] ≡ half line 0 ∷ half line 96 ∷ [] →
      ◌≡◌ {A = List ℕ} (half line 0 ∷ half line 96 ∷ []) (kept_of site face (group line) 1 96 ∷ kept_of site face (group line) 97 96 ∷ [])
  line_kept line e =
      let low = half_kept line 0 1 (omega arith) (λ k small. low_half set line (half line 0) (half line 96) k e small) in
      let high = half_kept line 96 97 (omega arith) (λ k small. high_half set line (half line 0) (half line 96) k e small) in
      ap (λ a. a ∷ half line 96 ∷ []) low ∙ ap (λ b. kept_of site face (group line) 1 96 ∷ b ∷ []) high

  points_kept : set ≡ kept_points site face group
  unfolding points_where
  points_kept =
      points.is
      ∙ same_set (half 1 0 ∷ half 1 96 ∷ []) (half 2 0 ∷ half 2 96 ∷ []) (half 3 0 ∷ half 3 96 ∷ []) (half 4 0 ∷ half 4 96 ∷ [])
      (kept_of site face (group 1) 1 96 ∷ kept_of site face (group 1) 97 96 ∷ []) (kept_of site face (group 2) 1 96
      ∷ kept_of site face (group 2) 97 96 ∷ [])
      (kept_of site face (group 3) 1 96 ∷ kept_of site face (group 3) 97 96 ∷ []) (kept_of site face (group 4) 1 96
      ∷ kept_of site face (group 4) 97 96 ∷ [])
      (line_kept 1 (ap (λ (s : PointSet). slice_index_or s.loops 0 []) points.is))
      (line_kept 2 (ap (λ (s : PointSet). slice_index_or s.loops 1 []) points.is))
      (line_kept 3 (ap (λ (s : PointSet). slice_index_or s.loops 2 []) points.is))
      (line_kept 4 (ap (λ (s : PointSet). slice_index_or s.loops 3 []) points.is))

-- ---- masks by panel

-- a mask for each of eight panels, with only bits of zones of that panel
pub record ArePanels (site : Site) (masks : List ℕ) : Type 0 where
  pub mask : ℕ → ℕ
  pub is : masks ≡ map mask (range_with_len 1 8)
  pub named : (source : ℕ) → HasNames 32 (λ k. is_named (zone_name site source (1 + k))) (mask source)

map_range : (f g : ℕ → ℕ) (a n : ℕ) → ((x : ℕ) → a ≤ x → x < a + n → f x ≡ g x) → map f (range_with_len a n) ≡ map g (range_with_len a n)
map_range f g a zero same = refl
map_range f g a (suc n) same =
    let ih = map_range f g (a + 1) n (λ x low high. same x (omega (arith, low)) (omega (arith, high))) in
    ap (λ y. y ∷ map f (range_with_len (a + 1) n)) (same a (omega arith) (omega arith)) ∙ ap (λ ys. g a ∷ ys) ih

bit_at_panel : (masks : List ℕ) (mask : ℕ → ℕ) (source k : ℕ) → masks ≡ map mask (range_with_len 1 8) → 1 ≤ source → source < 9
    → has_bit (slice_index masks (source - 1)) ((1 + k) - 1) ≡ has_bit (mask source) k
bit_at_panel masks mask source k e low high =
    bit_is (slice_index masks (source - 1)) k
    ∙ ap (λ (xs : List ℕ). has_bit (slice_index xs (source - 1)) k) e
    ∙ ap (λ m. has_bit m k) (get_or-map-range_with_len mask 1 8 (source - 1) source 0 (omega (arith, low, high)) (omega (arith, low)))

zones_kept : (site : Site) (face : Face) → ArePanels site face.zones
    → face.zones ≡ map (λ panel. kept_of site face (Zones panel) 1 32) (range_with_len 1 8)
zones_kept site face h =
    h.is
    ∙ map_range h.mask (λ panel. kept_of site face (Zones panel) 1 32) 1 8
    (λ source low high. kept_is 32 (λ k. is_named (zone_name site source (1 + k))) (λ k. shows face (Zones source) (1 + k)) (h.mask source)
    (h.named source) (λ k small. bit_at_panel face.zones h.mask source k h.is low (omega (arith, high))))

firsts_kept : (site : Site) (face : Face) → ArePanels site face.firsts
    → face.firsts ≡ map (λ panel. kept_of site face (Firsts panel) 1 32) (range_with_len 1 8)
firsts_kept site face h =
    h.is
    ∙ map_range h.mask (λ panel. kept_of site face (Firsts panel) 1 32) 1 8
    (λ source low high. kept_is 32 (λ k. is_named (zone_name site source (1 + k))) (λ k. shows face (Firsts source) (1 + k)) (h.mask source)
    (h.named source) (λ k small. bit_at_panel face.firsts h.mask source k h.is low (omega (arith, high))))

-- ---- the face

-- faults of a panel that are only of things of the site
pub record AreFaults (site : Site) (panel : ℕ) (faults : FaultSet) : Type 0 where
  pub missing : ArePoints site panel faults.missing
  pub broken : HasNames 4 (λ k. is_named (number_if (has_loop site panel (1 + k)) (1 + k))) faults.broken
  pub shorted : HasNames 4 (λ k. is_named (number_if (has_loop site panel (1 + k)) (1 + k))) faults.shorted
  pub supply : HasNames 4 (λ k. is_named (supply_name (1 + k))) faults.supply
  pub silent : HasNames 8 (λ k. is_named (number_if (is_panel site (1 + k)) (1 + k))) faults.silent
  pub links : HasNames 8 (λ k. is_named (number_if (is_link site (1 + k)) (1 + k))) faults.links
  pub unconfirmed : HasNames 32 (λ k. is_named (output_name site panel (1 + k))) faults.unconfirmed

-- all that a face shows is of the site
pub record IsNamed (site : Site) (face : Face) : Type 0 where
  pub zones : ArePanels site face.zones
  pub firsts : ArePanels site face.firsts
  pub faults : AreFaults site face.panel face.faults
  pub outputs : HasNames 32 (λ k. is_named (output_name site face.panel (1 + k))) face.outputs
  pub confirmed : HasNames 32 (λ k. is_named (output_name site face.panel (1 + k))) face.confirmed
  pub points_off : ArePoints site face.panel face.points_off
  pub zones_off : HasNames 32 (λ k. is_named (zone_name site face.panel (1 + k))) face.zones_off
  pub outputs_off : HasNames 32 (λ k. is_named (output_name site face.panel (1 + k))) face.outputs_off
  pub test : HasNames 32 (λ k. is_named (zone_name site face.panel (1 + k))) face.test

module _ (site : Site) (face : Face) (h : IsNamed site face) where
  -- the numbers of a group that has one mask
  one_kept : (group : Group) (count mask : ℕ) (named : ℕ → Bool) → HasNames count named mask
      → ((k : ℕ) → named k ≡ is_named (name_in site face.panel group (1 + k))) → ((k : ℕ) → shows face group (1 + k) ≡ has_bit mask k) →
      mask ≡ kept_of site face group 1 count
  one_kept group count mask named has same shown =
      kept_is count named (λ k. shows face group (1 + k)) mask has (λ k small. shown k)
      ∙ ap (λ (names : ℕ → Bool). mask_of count (λ k. names k && shows face group (1 + k))) (fun_ext same)

  faults_kept : face.faults ≡ (of_site site face).faults
  faults_kept =
      let f = face.faults in
      faults_from f (of_site site face).faults
      (points_kept site face Missing f.missing h.faults.missing (λ line number. refl) (λ line number. refl))
      (one_kept Broken 4 f.broken _ h.faults.broken (λ k. refl) (λ k. bit_is f.broken k))
      (one_kept Shorted 4 f.shorted _ h.faults.shorted (λ k. refl) (λ k. bit_is f.shorted k))
      (one_kept Supplies 4 f.supply _ h.faults.supply (λ k. refl) (λ k. bit_is f.supply k))
      (one_kept Silent 8 f.silent _ h.faults.silent (λ k. refl) (λ k. bit_is f.silent k))
      (one_kept Links 8 f.links _ h.faults.links (λ k. refl) (λ k. bit_is f.links k))
      (one_kept Unconfirmed 32 f.unconfirmed _ h.faults.unconfirmed (λ k. refl) (λ k. bit_is f.unconfirmed k))

  pub named_is : face ≡ of_site site face
  named_is =
      faces_from face (of_site site face) refl
      (zones_kept site face h.zones)
      (firsts_kept site face h.firsts)
      faults_kept
      (one_kept Outputs 32 face.outputs _ h.outputs (λ k. refl) (λ k. bit_is face.outputs k))
      (one_kept Confirmed 32 face.confirmed _ h.confirmed (λ k. refl) (λ k. bit_is face.confirmed k))
      (points_kept site face PointsOff face.points_off h.points_off (λ line number. refl) (λ line number. refl))
      (one_kept ZonesOff 32 face.zones_off _ h.zones_off (λ k. refl) (λ k. bit_is face.zones_off k))
      (one_kept OutputsOff 32 face.outputs_off _ h.outputs_off (λ k. refl) (λ k. bit_is face.outputs_off k))
      (one_kept Tests 32 face.test _ h.test (λ k. refl) (λ k. bit_is face.test k))
      refl refl refl
