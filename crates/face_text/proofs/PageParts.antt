-- Sections of the page: one behind the other they are the page, and where two faces have the same, nothing is told.
use Rattle.std.proofs.Common.{◌≡◌, ◌∙◌, ◌++◌, ◌-◌, ℕ, List, [], ◌∷◌, ap, append_assoc, drop, refl, rules, sym, take}
use Rattle.std.specs.List.{AllByRecursion, flat_map}
use Rattle.std.specs.Prelude.{slice_index}
use Rattle.std.proofs.lemmas.Grind.{flat_map-append}
use Rattle.site_types.specs.Bits.{has_bit, has_point}
use Rattle.site_types.specs.declared.fault_set.FaultSet.{FaultSet}
use Rattle.site_types.specs.declared.point_set.PointSet.{PointSet}
use Rattle.site_types.specs.declared.site.Site.{Site}
use Rattle.face_text.specs.declared.face.Face.{Face}
use Rattle.face_text.specs.declared.group.Group.{Group}
use Rattle.face_text.specs.declared.group.Group.TheVariants.{Zones, Firsts, Missing, Broken, Shorted, Supplies, Silent, Links, Unconfirmed, Outputs, Confirmed, PointsOff, ZonesOff, OutputsOff, Tests}
use Rattle.face_text.specs.Changes.{group_text, groups_text}
use Rattle.face_text.specs.Slots.{HasPlace, page}
use Rattle.face_text.proofs.Listing.{group_same}

texts_none : {X A : Type 0} (f : X → List A) (all : List X) → AllByRecursion (λ x. f x ≡ []) all → flat_map f all ≡ []
texts_none f [] none = refl
texts_none f (x ∷ all) none = ap (λ text. text ++ flat_map f all) none.0 ∙ texts_none f all none.1

-- the zones, the first states, the faults, and the rest
abbrev pub zones : List Group → List Group
zones groups = take 8 groups

abbrev pub firsts : List Group → List Group
firsts groups = take 8 (drop 8 groups)

abbrev pub faults : List Group → List Group
faults groups = take 10 (drop 16 groups)

abbrev pub others : List Group → List Group
others groups = take 9 (drop 26 groups)

pub zones_have : AllByRecursion HasPlace (zones page)
unfolding page
zones_have = search rules

pub firsts_have : AllByRecursion HasPlace (firsts page)
unfolding page
firsts_have = search rules

pub faults_have : AllByRecursion HasPlace (faults page)
unfolding page
faults_have = search rules

pub others_have : AllByRecursion HasPlace (others page)
unfolding page
others_have = search rules

one_page : zones page ++ (firsts page ++ (faults page ++ others page)) ≡ page
unfolding page
one_page = refl

module _ (site : Site) (before after : Face) where
  abbrev text : List Group → List ℕ
  text = groups_text site before after

  -- the text of the page, with what of it is put before the second, the third and the fourth part
  pub before_second : (groups : List Group) → groups ≡ page → text page ≡ text (zones groups)
      ++ (text (firsts groups) ++ (text (faults groups) ++ text (others groups)))
  before_second groups same =
      let f = group_text site before after in
      rw same (ap text (sym one_page) ∙ flat_map-append f (zones page) (firsts page ++ (faults page ++ others page))
      ∙ ap (λ t. text (zones page) ++ t) (flat_map-append f (firsts page) (faults page ++ others page))
      ∙ ap (λ t. text (zones page) ++ (text (firsts page) ++ t)) (flat_map-append f (faults page) (others page)))

  pub before_third : (groups : List Group) → groups ≡ page → text page ≡ (text (zones groups) ++ text (firsts groups))
      ++ (text (faults groups) ++ text (others groups))
  before_third groups same =
      before_second groups same
      ∙ sym (append_assoc (text (zones groups)) (text (firsts groups)) (text (faults groups) ++ text (others groups)))

  pub before_fourth : (groups : List Group) → groups ≡ page → text page ≡ ((text (zones groups) ++ text (firsts groups)) ++ text (faults groups))
      ++ text (others groups)
  before_fourth groups same =
      before_third groups same
      ∙ sym (append_assoc (text (zones groups) ++ text (firsts groups)) (text (faults groups)) (text (others groups)))

  pub no_zones : before.zones ≡ after.zones → text (zones page) ≡ []
  unfolding page
  no_zones same = texts_none (group_text site before after) (zones page) (of 1, (of 2, (of 3, (of 4, (of 5, (of 6, (of 7, (of 8, tt))))))))
    where
      of : (panel : ℕ) → group_text site before after (Zones panel) ≡ []
      of panel =
          group_same site before after (Zones panel)
          (λ number. ap (λ (all : List ℕ). has_bit (slice_index all (panel - 1)) (number - 1)) same)

  pub no_firsts : before.firsts ≡ after.firsts → text (firsts page) ≡ []
  unfolding page
  no_firsts same = texts_none (group_text site before after) (firsts page) (of 1, (of 2, (of 3, (of 4, (of 5, (of 6, (of 7, (of 8, tt))))))))
    where
      of : (panel : ℕ) → group_text site before after (Firsts panel) ≡ []
      of panel =
          group_same site before after (Firsts panel)
          (λ number. ap (λ (all : List ℕ). has_bit (slice_index all (panel - 1)) (number - 1)) same)

  pub no_faults : before.faults ≡ after.faults → text (faults page) ≡ []
  unfolding page
  no_faults same =
      let none = group_same site before after in
      let broken = none Broken (mask (λ all. all.broken)) in
      let shorted = none Shorted (mask (λ all. all.shorted)) in
      let supplies = none Supplies (mask (λ all. all.supply)) in
      let silent = none Silent (mask (λ all. all.silent)) in
      let links = none Links (mask (λ all. all.links)) in
      let unconfirmed = none Unconfirmed (mask (λ all. all.unconfirmed)) in
      texts_none (group_text site before after) (faults page)
      (missing 1, (missing 2, (missing 3, (missing 4, (broken, (shorted, (supplies, (silent, (links, (unconfirmed, tt))))))))))
    where
      mask : (bits : FaultSet → ℕ) (number : ℕ) → has_bit (bits before.faults) (number - 1) ≡ has_bit (bits after.faults) (number - 1)
      mask bits number = ap (λ (all : FaultSet). has_bit (bits all) (number - 1)) same

      missing : (line : ℕ) → group_text site before after (Missing line) ≡ []
      missing line =
          group_same site before after (Missing line) (λ number. ap (λ (all : FaultSet). has_point all.missing line number) same)

  pub no_others : before.outputs ≡ after.outputs → before.confirmed ≡ after.confirmed → before.points_off ≡ after.points_off
      → before.zones_off ≡ after.zones_off → before.outputs_off ≡ after.outputs_off → before.test ≡ after.test → text (others page) ≡ []
  unfolding page
  no_others outputs confirmed points_off zones_off outputs_off test =
      let none = group_same site before after in
      let on = none Outputs (mask outputs) in
      let seen = none Confirmed (mask confirmed) in
      let zones_too = none ZonesOff (mask zones_off) in
      let outputs_too = none OutputsOff (mask outputs_off) in
      let tests = none Tests (mask test) in
      texts_none (group_text site before after) (others page)
      (on, (seen, (points 1, (points 2, (points 3, (points 4, (zones_too, (outputs_too, (tests, tt)))))))))
    where
      mask : {one other : ℕ} → one ≡ other → (number : ℕ) → has_bit one (number - 1) ≡ has_bit other (number - 1)
      mask same number = ap (λ (bits : ℕ). has_bit bits (number - 1)) same

      points : (line : ℕ) → group_text site before after (PointsOff line) ≡ []
      points line =
          group_same site before after (PointsOff line) (λ number. ap (λ (all : PointSet). has_point all line number) points_off)
