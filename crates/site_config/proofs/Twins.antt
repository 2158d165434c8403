-- Nothing occurs twice in a site read, and its list of names is that of its things.
use Rattle.std.proofs.Common.{◌≡◌, ◌<◌, ℕ, zero, suc, ◌+◌, List, [], ◌∷◌, ◌++◌, Bool, true, false, ◌||◌, ◌&&◌, ◌==◌}
use Rattle.std.proofs.Common.{Option, Some, None, option_map, ◌⊎◌, inl, inr, Less, refl, ap, sym, subst, ◌∙◌, arith}
use Rattle.std.proofs.Common.{map, eq-eqb, if◌then◌else◌}
use Rattle.std.proofs.lemmas.List.Folds.{list_any-append}
use Rattle.std.proofs.lemmas.Map.Text.{is_eq-slice_cmp}
use Rattle.std.proofs.lemmas.Option.{slice_get-map}
use Rattle.std.proofs.lemmas.Slice.Eq.{bytes_eq-Decides}
use Rattle.std.specs.Cmp.Lexicographic.{slice_cmp}
use Rattle.std.specs.List.{AllByRecursion, list_any}
use Rattle.std.specs.Ordering.{is_eq, nat_cmp}
use Rattle.std.specs.Prelude.{slice_get, codes}
use Rattle.std.specs.Str.{bytes_eq}
use Rattle.site_types.specs.Things.{name_at}
use Rattle.site_types.specs.Valid.{AreNames, HasNoTwins, IsUniqueBy, loop_key}
use Rattle.site_types.specs.declared.loop_plan.LoopPlan.{LoopPlan}
use Rattle.site_types.specs.declared.named.Named.{Named}
use Rattle.site_types.specs.declared.named.Thing.{Thing}
use Rattle.site_types.specs.declared.named.Thing.TheVariants.{Point, Zone, Output, Marker}
use Rattle.site_types.specs.declared.site.Site.{Site}
use Rattle.site_document.specs.declared.draft.Draft.{Draft}
use Rattle.site_document.specs.declared.draft_output.DraftOutput.{DraftOutput}
use Rattle.site_document.specs.declared.draft_point.DraftPoint.{DraftPoint}
use Rattle.site_document.specs.declared.draft_zone.DraftZone.{DraftZone}
use Rattle.site_document.specs.declared.row_kind.RowKind.TheVariants as kind
use Rattle.site_document.specs.Refusals.{Refusal, twice}
use Rattle.site_document.specs.Texts.{key_text}
use Rattle.site_config.specs.Claims.{claims_of, first_twice, is_same_loop, loop_twice, named_in, output_claim, point_claim, twice_in, zone_claim}
use Rattle.site_config.specs.NamedList.{AreListed, Rise, named_view, thing_among}
use Rattle.site_config.specs.Placing.{SeenMarker, SeenOutput, SeenPoint, SeenZone, marker_view, output_view, placed_marker, placed_output, placed_point, placed_zone, point_view, zone_view}
use Rattle.site_config.proofs.ListsAlike.{all_by_place, inner, like_at}
use Rattle.site_config.proofs.SiteForms.{SeenAs}
use Rattle.site_config.proofs.NamedParts.{bears, borne_by, draft_name, one_number, output_made, point_made, zone_made}
use Rattle.site_config.proofs.CleanKeys.{none_first, none_later, not_failed}

-- ---- names

two_maps : {X V W : Type 0} (h : V → W) (f : X → V) (o : Option X) → option_map h (option_map f o) ≡ option_map (λ x. h (f x)) o
two_maps h f None = refl
two_maps h f (Some x) = refl

map_at : {X Y V : Type 0} (f : X → V) (g : Y → V) (xs : List X) (ys : List Y) (k : ℕ) → map f xs ≡ map g ys
    → option_map f (slice_get xs k) ≡ option_map g (slice_get ys k)
map_at f g xs ys k e = sym (slice_get-map f xs k) ∙ ap (λ l. slice_get l k) e ∙ slice_get-map g ys k

-- a thing of the site has the name of the draft's
pub same_name : (look : List ℕ → Option Thing) (draft : Draft) (site : Site) → SeenAs look draft site → (t : Thing)
    → name_at site t ≡ draft_name draft t
unfolding placed_point placed_zone placed_output placed_marker
same_name look draft site seen (Point k) =
    sym (two_maps (λ (s : SeenPoint). s.name) point_view (slice_get site.points k))
    ∙ ap (option_map (λ (s : SeenPoint). s.name)) (map_at point_view (placed_point look) site.points draft.points k seen.points)
    ∙ two_maps (λ (s : SeenPoint). s.name) (placed_point look) (slice_get draft.points k)
same_name look draft site seen (Zone k) =
    sym (two_maps (λ (s : SeenZone). s.name) zone_view (slice_get site.zones k))
    ∙ ap (option_map (λ (s : SeenZone). s.name)) (map_at zone_view (placed_zone look) site.zones draft.zones k seen.zones)
    ∙ two_maps (λ (s : SeenZone). s.name) (placed_zone look) (slice_get draft.zones k)
same_name look draft site seen (Output k) =
    sym (two_maps (λ (s : SeenOutput). s.name) output_view (slice_get site.outputs k))
    ∙ ap (option_map (λ (s : SeenOutput). s.name)) (map_at output_view (placed_output look) site.outputs draft.outputs k seen.outputs)
    ∙ two_maps (λ (s : SeenOutput). s.name) (placed_output look) (slice_get draft.outputs k)
same_name look draft site seen (Marker k) =
    sym (two_maps (λ (s : SeenMarker). s.name) marker_view (slice_get site.markers k))
    ∙ ap (option_map (λ (s : SeenMarker). s.name)) (map_at marker_view (placed_marker look) site.markers draft.markers k seen.markers)
    ∙ two_maps (λ (s : SeenMarker). s.name) (placed_marker look) (slice_get draft.markers k)

site_bears : (draft : Draft) (site : Site) → SeenAs (named_in draft) draft site → twice_in draft ≡ None → (t : Thing) (name : List ℕ)
    → name_at site t ≡ Some name
    → named_in draft name ≡ Some t
site_bears draft site seen once t name e = bears draft t name once (sym (same_name (named_in draft) draft site seen t) ∙ e)

one_thing : (o : Option Thing) (s t : Thing) → o ≡ Some s → o ≡ Some t → s ≡ t
one_thing o s t e f = inner s t (sym e ∙ f)

-- ---- numbers

zone_number_of : (a b : DraftZone) → a.panel ∷ a.number ∷ [] ≡ b.panel ∷ b.number ∷ [] → 1 ∷ b.panel ∷ 0 ∷ b.number ∷ [] ≡ 1 ∷ a.panel ∷ 0 ∷ a.number
    ∷ []
zone_number_of a b e = cc e

zone_places : (j k : ℕ) → Zone j ≡ Zone k → j ≡ k
zone_places j k e = cc e

pub zones_apart : (draft : Draft) → twice_in draft ≡ None → (j k : ℕ) (a b : DraftZone) → slice_get draft.zones j ≡ Some a
    → slice_get draft.zones k ≡ Some b
    → a.panel ∷ a.number ∷ [] ≡ b.panel ∷ b.number ∷ [] → j ≡ k
zones_apart draft once j k a b at bt e =
    let q : List ℕ = 1 ∷ a.panel ∷ 0 ∷ a.number ∷ [] in
    zone_places j k
    (one_number draft (zone_claim j a) (zone_claim k b) q once (zone_made draft j a at) (zone_made draft k b bt) ((bytes_eq-Decides q q).1 refl)
    ((bytes_eq-Decides (1 ∷ b.panel ∷ 0 ∷ b.number ∷ []) q).1 (zone_number_of a b e)))

point_number_of : (a b : DraftPoint) → a.panel ∷ a.line ∷ a.address ∷ [] ≡ b.panel ∷ b.line ∷ b.address ∷ []
    → 2 ∷ b.panel ∷ b.line ∷ b.address ∷ [] ≡ 2 ∷ a.panel ∷ a.line ∷ a.address ∷ []
point_number_of a b e = cc e

point_places : (j k : ℕ) → Point j ≡ Point k → j ≡ k
point_places j k e = cc e

pub points_apart : (draft : Draft) → twice_in draft ≡ None → (j k : ℕ) (a b : DraftPoint) → slice_get draft.points j ≡ Some a
    → slice_get draft.points k ≡ Some b
    → a.panel ∷ a.line ∷ a.address ∷ [] ≡ b.panel ∷ b.line ∷ b.address ∷ [] → j ≡ k
points_apart draft once j k a b at bt e =
    let q : List ℕ = 2 ∷ a.panel ∷ a.line ∷ a.address ∷ [] in
    point_places j k
    (one_number draft (point_claim j a) (point_claim k b) q once (point_made draft j a at) (point_made draft k b bt) ((bytes_eq-Decides q q).1 refl)
    ((bytes_eq-Decides (2 ∷ b.panel ∷ b.line ∷ b.address ∷ []) q).1 (point_number_of a b e)))

output_number_of : (a b : DraftOutput) → a.panel ∷ a.number ∷ [] ≡ b.panel ∷ b.number ∷ [] → 3 ∷ b.panel ∷ 0 ∷ b.number ∷ [] ≡ 3 ∷ a.panel ∷ 0
    ∷ a.number ∷ []
output_number_of a b e = cc e

output_places : (j k : ℕ) → Output j ≡ Output k → j ≡ k
output_places j k e = cc e

pub outputs_apart : (draft : Draft) → twice_in draft ≡ None → (j k : ℕ) (a b : DraftOutput) → slice_get draft.outputs j ≡ Some a
    → slice_get draft.outputs k ≡ Some b
    → a.panel ∷ a.number ∷ [] ≡ b.panel ∷ b.number ∷ [] → j ≡ k
outputs_apart draft once j k a b at bt e =
    let q : List ℕ = 3 ∷ a.panel ∷ 0 ∷ a.number ∷ [] in
    output_places j k
    (one_number draft (output_claim j a) (output_claim k b) q once (output_made draft j a at) (output_made draft k b bt)
    ((bytes_eq-Decides q q).1 refl)
    ((bytes_eq-Decides (3 ∷ b.panel ∷ 0 ∷ b.number ∷ []) q).1 (output_number_of a b e)))

-- a list that is seen as another has no more twins
unique_as : {X Y V : Type 0} (f : X → V) (g : Y → V) (key : V → List ℕ) (xs : List X) (ys : List Y) → map f xs ≡ map g ys
    → ((j k : ℕ) (a b : Y) → slice_get ys j ≡ Some a → slice_get ys k ≡ Some b → key (g a) ≡ key (g b) → j ≡ k) → IsUniqueBy (λ x. key (f x)) xs
unique_as f g key xs ys e apart j k a b at bt same =
    let (c, ct, ca) = like_at f g xs ys e j a at in
    let (d, dt, db) = like_at f g xs ys e k b bt in
    apart j k c d ct dt (ap key (sym ca) ∙ same ∙ ap key db)

-- ---- loops

shift : (j k : ℕ) → (j < k) ⊎ ((j ≡ k) ⊎ (k < j)) → (suc j < suc k) ⊎ ((suc j ≡ suc k) ⊎ (suc k < suc j))
shift j k (inl a) = inl (omega arith)
shift j k (inr (inl a)) = inr (inl (ap suc a))
shift j k (inr (inr a)) = inr (inr (omega arith))

order : (j k : ℕ) → (j < k) ⊎ ((j ≡ k) ⊎ (k < j))
order zero zero = inr (inl refl)
order zero (suc k) = inl (omega arith)
order (suc j) zero = inr (inr (omega arith))
order (suc j) (suc k) = shift j k (order j k)

either_false : (a b : Bool) → (a || b) ≡ false → (a ≡ false) × (b ≡ false)
either_false false b e = (refl, e)
either_false true b e = absurd (cc e)

abbrev loop_fault : List LoopPlan → ℕ → LoopPlan → Option Refusal
loop_fault before n plan =
    if list_any (is_same_loop plan) before then Some (twice (key_text (record { kind = kind.Loop; number = n }) (codes "loop"))) else None

none_before : (before : List LoopPlan) (n : ℕ) (loops : List LoopPlan) → loop_twice before n loops ≡ None → (k : ℕ) (b : LoopPlan)
    → slice_get loops k ≡ Some b
    → list_any (is_same_loop b) before ≡ false
none_before before n [] e k b at = absurd (cc at)
none_before before n (plan ∷ rest) e zero b at =
    let P : LoopPlan → Type 0 = λ l. list_any (is_same_loop l) before ≡ false in
    subst P (inner plan b at)
    (not_failed (list_any (is_same_loop plan) before) (twice (key_text (record { kind = kind.Loop; number = n }) (codes "loop")))
    (none_first (loop_fault before n plan) (loop_twice (before ++ plan ∷ []) (n + 1) rest) e))
none_before before n (plan ∷ rest) e (suc k) b at =
    let more =
    none_before (before ++ plan ∷ []) (n + 1) rest (none_later (loop_fault before n plan) (loop_twice (before ++ plan ∷ []) (n + 1) rest) e) k b
    at in
    (either_false (list_any (is_same_loop b) before) (list_any (is_same_loop b) (plan ∷ []))
    (sym (list_any-append (is_same_loop b) before (plan ∷ [])) ∙ more)).0

both : (x y : Bool) → x ≡ true → y ≡ true → (x && y) ≡ true
both x y e f = rw (e, f)

keyed : (a b : LoopPlan) → loop_key a ≡ loop_key b → (b.panel ≡ a.panel) × (b.line ≡ a.line)
keyed a b e = (cc e, cc e)

same_plan : (a b : LoopPlan) → loop_key a ≡ loop_key b → is_same_loop b a ≡ true
same_plan a b e = both (b.panel == a.panel) (b.line == a.line) (eq-eqb b.panel a.panel (keyed a b e).0) (eq-eqb b.line a.line (keyed a b e).1)

in_order : (before : List LoopPlan) (n : ℕ) (loops : List LoopPlan) → loop_twice before n loops ≡ None → (j k : ℕ) (a b : LoopPlan)
    → slice_get loops j ≡ Some a
    → slice_get loops k ≡ Some b → is_same_loop b a ≡ true → j < k → ⊥
in_order before n [] e j k a b at bt same lt = cc at
in_order before n (plan ∷ rest) e j zero a b at bt same lt = omega arith
in_order before n (plan ∷ rest) e zero (suc k) a b at bt same lt =
    let more =
    none_before (before ++ plan ∷ []) (n + 1) rest (none_later (loop_fault before n plan) (loop_twice (before ++ plan ∷ []) (n + 1) rest) e) k b
    bt in
    let apart =
    either_false (list_any (is_same_loop b) before) (list_any (is_same_loop b) (plan ∷ []))
    (sym (list_any-append (is_same_loop b) before (plan ∷ [])) ∙ more) in
    let here : is_same_loop b plan ≡ false = (either_false (is_same_loop b plan) false apart.1).0 in
    cc (ap (is_same_loop b) (sym (inner plan a at)), same, here)
in_order before n (plan ∷ rest) e (suc j) (suc k) a b at bt same lt =
    in_order (before ++ plan ∷ []) (n + 1) rest (none_later (loop_fault before n plan) (loop_twice (before ++ plan ∷ []) (n + 1) rest) e) j k a b at
    bt same (omega arith)

loops_by : (loops : List LoopPlan) → loop_twice [] 1 loops ≡ None → (j k : ℕ) (a b : LoopPlan) → slice_get loops j ≡ Some a
    → slice_get loops k ≡ Some b
    → loop_key a ≡ loop_key b → (j < k) ⊎ ((j ≡ k) ⊎ (k < j)) → j ≡ k
loops_by loops once j k a b at bt e (inl lt) = absurd (in_order [] 1 loops once j k a b at bt (same_plan a b e) lt)
loops_by loops once j k a b at bt e (inr (inl is)) = is
loops_by loops once j k a b at bt e (inr (inr lt)) = absurd (in_order [] 1 loops once k j b a bt at (same_plan b a (sym e)) lt)

loops_once : (draft : Draft) → twice_in draft ≡ None → loop_twice [] 1 draft.loops ≡ None
unfolding twice_in
loops_once draft e = none_first (loop_twice [] 1 draft.loops) (first_twice [] (claims_of draft)) e

pub no_twins : (draft : Draft) (site : Site) → SeenAs (named_in draft) draft site → twice_in draft ≡ None → HasNoTwins site
unfolding placed_point placed_zone placed_output
no_twins draft site seen once = record {
  names = λ s t name e f. one_thing (named_in draft name) s t (site_bears draft site seen once s name e) (site_bears draft site seen once t name f);
  loops = λ j k a b at bt e.
      loops_by draft.loops (loops_once draft once) j k a b (ap (λ (ls : List LoopPlan). slice_get ls j) (sym seen.loops) ∙ at)
      (ap (λ (ls : List LoopPlan). slice_get ls k) (sym seen.loops) ∙ bt) e (order j k);
  zones = unique_as zone_view (placed_zone (named_in draft)) (λ (s : SeenZone). s.panel ∷ s.number ∷ []) site.zones draft.zones seen.zones
      (zones_apart draft once);
  points = unique_as point_view (placed_point (named_in draft)) (λ (s : SeenPoint). s.panel ∷ s.line ∷ s.address ∷ []) site.points draft.points
      seen.points
      (points_apart draft once);
  outputs = unique_as output_view (placed_output (named_in draft)) (λ (s : SeenOutput). s.panel ∷ s.number ∷ []) site.outputs draft.outputs
      seen.outputs
      (outputs_apart draft once);
}

-- ---- the list of names

rise_at : (e : List ℕ × Thing) (names : List Named) → AllByRecursion (λ (o : List ℕ × Thing). slice_cmp nat_cmp e.0 o.0 ≡ Less) (map named_view names)
    → (k : ℕ)
    (b : Named) → slice_get names k ≡ Some b → slice_cmp nat_cmp e.0 b.name.bytes ≡ Less
rise_at e [] all k b at = absurd (cc at)
rise_at e (n ∷ names) all zero b at =
    let P : Named → Type 0 = λ m. slice_cmp nat_cmp e.0 m.name.bytes ≡ Less in subst P (inner n b at) all.0
rise_at e (n ∷ names) all (suc k) b at = rise_at e names all.1 k b at

rising_by : (names : List Named) → Rise (map named_view names) → (j k : ℕ) (a b : Named) → j < k → slice_get names j ≡ Some a
    → slice_get names k ≡ Some b
    → slice_cmp nat_cmp a.name.bytes b.name.bytes ≡ Less
rising_by [] rise j k a b lt at bt = absurd (cc at)
rising_by (n ∷ names) rise j zero a b lt at bt = absurd (omega arith)
rising_by (n ∷ names) rise zero (suc k) a b lt at bt =
    let P : Named → Type 0 = λ m. slice_cmp nat_cmp m.name.bytes b.name.bytes ≡ Less in
    subst P (inner n a at) (rise_at (named_view n) names rise.0 k b bt)
rising_by (n ∷ names) rise (suc j) (suc k) a b lt at bt = rising_by names rise.1 j k a b (omega arith) at bt

not_same : (a b : List ℕ) → slice_cmp nat_cmp a b ≡ Less → bytes_eq b a ≡ true → ⊥
not_same a b less same =
    let e : b ≡ a = (bytes_eq-Decides b a).0 same in
    let f : bytes_eq a b ≡ true = (bytes_eq-Decides a b).1 (sym e) in
    let g : is_eq (slice_cmp nat_cmp a b) ≡ false = ap is_eq less in
    cc (is_eq-slice_cmp a b, f, g)

pass_by : (b : Bool) (x t : Thing) (o : Option Thing) → (b ≡ true → ⊥) → o ≡ Some t → (if b then Some x else o) ≡ Some t
pass_by true x t o no_way e = absurd (no_way refl)
pass_by false x t o no_way e = e

take_here : (b : Bool) (x : Thing) (o : Option Thing) → b ≡ true → (if b then Some x else o) ≡ Some x
take_here true x o e = refl
take_here false x o e = absurd (cc e)

listed_at : (names : List Named) → Rise (map named_view names) → (k : ℕ) (a : Named) → slice_get names k ≡ Some a
    → thing_among (map named_view names) a.name.bytes ≡ Some a.thing
listed_at [] rise k a at = absurd (cc at)
listed_at (n ∷ names) rise zero a at =
    let P : Named → Type 0 = λ m. thing_among (map named_view (n ∷ names)) m.name.bytes ≡ Some m.thing in
    subst P (inner n a at) (take_here (bytes_eq n.name.bytes n.name.bytes) n.thing _ ((bytes_eq-Decides n.name.bytes n.name.bytes).1 refl))
listed_at (n ∷ names) rise (suc k) a at =
    pass_by (bytes_eq a.name.bytes n.name.bytes) n.thing a.thing _ (not_same n.name.bytes a.name.bytes (rise_at (named_view n) names rise.0 k a at))
    (listed_at names rise.1 k a at)

abbrev IsListed : List Named → Thing → Type 0
IsListed names t = (k : ℕ) × (named : Named) × (slice_get names k ≡ Some named) × (named.thing ≡ t)

listed_next : (n : Named) (names : List Named) (t : Thing) → IsListed names t → IsListed (n ∷ names) t
listed_next n names t (k, named, at, is) = (suc k, named, at, is)

listed_or : (n : Named) (names : List Named) (t : Thing) (b : Bool) (o : Option Thing) → (if b then Some n.thing else o) ≡ Some t
    → (o ≡ Some t → IsListed names t)
    → IsListed (n ∷ names) t
listed_or n names t true o e later = (zero, n, refl, inner n.thing t e)
listed_or n names t false o e later = listed_next n names t (later e)

listed_whole : (names : List Named) (name : List ℕ) (t : Thing) → thing_among (map named_view names) name ≡ Some t → IsListed names t
listed_whole [] name t e = absurd (cc e)
listed_whole (n ∷ names) name t e =
    listed_or n names t (bytes_eq name n.name.bytes) (thing_among (map named_view names) name) e (λ f. listed_whole names name t f)

pub names_listed : (draft : Draft) (site : Site) → SeenAs (named_in draft) draft site → twice_in draft ≡ None → AreListed (named_in draft) site.names
    → AreNames site
names_listed draft site seen once listed = record {
  rising = λ j k a b lt at bt. rising_by site.names listed.rising j k a b lt at bt;
  right = all_by_place (λ (named : Named). name_at site named.thing ≡ Some named.name.bytes) site.names
      (λ k a at. same_name (named_in draft) draft site seen a.thing
      ∙ borne_by draft a.name.bytes a.thing (sym (listed.found a.name.bytes) ∙ listed_at site.names listed.rising k a at));
  whole = λ t name e. listed_whole site.names name t (listed.found name ∙ site_bears draft site seen once t name e);
}
