-- The order of the page: the places of its slots rise, and each slot of the page is among them.
use Rattle.std.proofs.Common.{inl, inr, ◌⊎◌, ◌≡◌, ◌≢◌, ◌≤◌, ◌<◌, ◌+◌, ◌-◌, ◌*◌, ◌==◌, ℕ, zero, suc, Bool, true, false}
use Rattle.std.proofs.Common.{List, [], ◌∷◌, ◌++◌, map, filter, get_or, length, refl, sym, ◌∙◌, ap, subst, arith, rules}
use Rattle.std.proofs.Common.{if◌then◌else◌}
use Rattle.std.specs.List.{AllByRecursion, flat_map, range_with_len}
use Rattle.std.proofs.lemmas.Bool.Decides.{eqb_tells}
use Rattle.site_types.specs.declared.site.Site.{Site}
use Rattle.face_text.specs.declared.group.Group.{Group}
use Rattle.face_text.specs.declared.group.Group.TheVariants.{Zones, Firsts, Missing, Broken, Shorted, Supplies, Silent, Links, Unconfirmed, Outputs, Confirmed, PointsOff, ZonesOff, OutputsOff, Tests}
use Rattle.face_text.specs.Slots.{HasPlace, Slot, Thing, Delays, Sounding, Count, is_named, last_of, name_in, page, slots, slots_of}
use Rattle.face_text.proofs.Pages.{all_have, last_small, page_length}
use Rattle.face_reading.specs.Entries.{group_rank, slot_rank}
use Rattle.face_reading.proofs.FaceTelling.{IsSlotOf}

-- ---- rising places

-- slots at rising places of the page, from behind one up to another
abbrev pub RiseBetween : ℕ → ℕ → List Slot → Type 0
RiseBetween low high [] = low ≤ high
RiseBetween low high (slot ∷ all) = (low < slot_rank slot) × RiseBetween (slot_rank slot) high all

rise_lower : (low from high : ℕ) (all : List Slot) → low ≤ from → RiseBetween from high all → RiseBetween low high all
rise_lower low from high [] less rise = omega (arith, less, rise)
rise_lower low from high (slot ∷ all) less rise = let first = rise.0 in (omega (arith, less, first), rise.1)

rise_append : (low mid high : ℕ) (some more : List Slot) → RiseBetween low mid some → RiseBetween mid high more → RiseBetween low high (some ++ more)
rise_append low mid high [] more first rest = rise_lower low mid high more first rest
rise_append low mid high (slot ∷ some) more first rest = (first.0, rise_append (slot_rank slot) mid high some more first.1 rest)

rise_numbers : (group : Group) (test : ℕ → Bool) (low high first count : ℕ) → low < group_rank group * 1000 + first
    → group_rank group * 1000 + first + count ≤ high →
    RiseBetween low high (map (Thing group) (filter test (range_with_len first count)))
rise_numbers group test low high first zero above below = omega (arith, above, below)
rise_numbers group test low high first (suc count) above below =
    go (test first) (rise_numbers group test low high (first + 1) count (omega (arith, above)) (omega (arith, below)))
    (rise_numbers group test (group_rank group * 1000 + first) high (first + 1) count (omega arith) (omega (arith, below)))
  where
    go : (b : Bool) → RiseBetween low high (map (Thing group) (filter test (range_with_len (first + 1) count))) →
        RiseBetween (group_rank group * 1000 + first) high (map (Thing group) (filter test (range_with_len (first + 1) count))) →
        RiseBetween low high
        (map (Thing group) (if b then first ∷ filter test (range_with_len (first + 1) count) else filter test (range_with_len (first + 1) count)))
    go true less more = (above, more)
    go false less more = less

rise_group : (site : Site) (panel : ℕ) (group : Group) (low : ℕ) → low < group_rank group * 1000 + 1
    → RiseBetween low (group_rank group * 1000 + 999) (slots_of site panel group)
rise_group site panel group low above =
    rise_numbers group (λ number. is_named (name_in site panel group number)) low (group_rank group * 1000 + 999) 1 (last_of group) above
    (omega (arith, last_small group))

-- groups at rising places of the page, behind one
abbrev GroupsRise : ℕ → List Group → Type 0
GroupsRise place [] = place ≤ 35
GroupsRise place (group ∷ groups) = (place < group_rank group) × GroupsRise (group_rank group) groups

page_rises : GroupsRise 0 page
unfolding page
page_rises = search rules

rise_groups : (site : Site) (panel place : ℕ) (groups : List Group) → GroupsRise place groups
    → RiseBetween (place * 1000 + 999) 35999 (flat_map (slots_of site panel) groups)
rise_groups site panel place [] rise = omega (arith, rise)
rise_groups site panel place (group ∷ groups) rise =
    let first = rise.0 in
    rise_append (place * 1000 + 999) (group_rank group * 1000 + 999) 35999 (slots_of site panel group) (flat_map (slots_of site panel) groups)
    (rise_group site panel group (place * 1000 + 999) (omega (arith, first))) (rise_groups site panel (group_rank group) groups rise.1)

pub slots_rise : (site : Site) (panel : ℕ) → RiseBetween 0 38000 (slots site panel)
slots_rise site panel =
    rise_append 0 35999 38000 (flat_map (slots_of site panel) page) (Delays ∷ Sounding ∷ Count ∷ [])
    (rise_lower 0 999 35999 (flat_map (slots_of site panel) page) (omega arith) (rise_groups site panel 0 page page_rises))
    (omega arith, (omega arith, (omega arith, omega arith)))

-- ---- all are of the page

all_append : {X : Type 0} (P : X → Type 0) (xs ys : List X) → AllByRecursion P xs → AllByRecursion P ys → AllByRecursion P (xs ++ ys)
all_append P [] ys some more = more
all_append P (x ∷ xs) ys some more = (some.0, all_append P xs ys some.1 more)

all_numbers : (site : Site) (panel : ℕ) (group : Group) (first count : ℕ) → HasPlace group → 1 ≤ first → first + count ≤ 1 + last_of group →
    AllByRecursion (IsSlotOf site panel)
    (map (Thing group) (filter (λ number. is_named (name_in site panel group number)) (range_with_len first count)))
all_numbers site panel group first zero place low high = tt
all_numbers site panel group first (suc count) place low high =
    go (is_named (name_in site panel group first)) refl (all_numbers site panel group (first + 1) count place (omega arith) (omega (arith, high)))
  where
    test : ℕ → Bool
    test number = is_named (name_in site panel group number)

    go : (b : Bool) → is_named (name_in site panel group first) ≡ b
        → AllByRecursion (IsSlotOf site panel) (map (Thing group) (filter test (range_with_len (first + 1) count))) →
        AllByRecursion (IsSlotOf site panel)
        (map (Thing group) (if b then first ∷ filter test (range_with_len (first + 1) count) else filter test (range_with_len (first + 1) count)))
    go true e rest = ((place, low, omega (arith, high), e), rest)
    go false e rest = rest

all_groups : (site : Site) (panel : ℕ) (groups : List Group) → AllByRecursion HasPlace groups
    → AllByRecursion (IsSlotOf site panel) (flat_map (slots_of site panel) groups)
all_groups site panel [] places = tt
all_groups site panel (group ∷ groups) places =
    all_append (IsSlotOf site panel) (slots_of site panel group) (flat_map (slots_of site panel) groups)
    (all_numbers site panel group 1 (last_of group) places.0 (omega arith) (omega arith))
    (all_groups site panel groups places.1)

pub slots_are : (site : Site) (panel : ℕ) → AllByRecursion (IsSlotOf site panel) (slots site panel)
slots_are site panel =
    all_append (IsSlotOf site panel) (flat_map (slots_of site panel) page) (Delays ∷ Sounding ∷ Count ∷ []) (all_groups site panel page all_have)
    (tt, (tt, (tt, tt)))

-- ---- each slot of the page is there

abbrev pub IsAmong : {X : Type 0} → X → List X → Type 0
IsAmong x [] = ⊥
IsAmong x (y ∷ ys) = (x ≡ y) ⊎ IsAmong x ys

among_left : {X : Type 0} (x : X) (xs ys : List X) → IsAmong x xs → IsAmong x (xs ++ ys)
among_left x [] ys here = absurd here
among_left x (y ∷ xs) ys (inl here) = inl here
among_left x (y ∷ xs) ys (inr there) = inr (among_left x xs ys there)

among_right : {X : Type 0} (x : X) (xs ys : List X) → IsAmong x ys → IsAmong x (xs ++ ys)
among_right x [] ys there = there
among_right x (y ∷ xs) ys there = inr (among_right x xs ys there)

among_numbers : (group : Group) (test : ℕ → Bool) (number first count : ℕ) → first ≤ number → number < first + count → test number ≡ true
    → IsAmong (Thing group number) (map (Thing group) (filter test (range_with_len first count)))
among_numbers group test number first zero low high is = absurd (omega (arith, low, high))
among_numbers group test number first (suc count) low high is =
    by (test first) refl (eqb_tells number first)
    (λ next. among_numbers group test number (first + 1) count (omega (arith, next)) (omega (arith, high)) is)
  where
    by : (b : Bool) → test first ≡ b → (((number == first) ≡ true) × (number ≡ first)) ⊎ (((number == first) ≡ false) × (number ≢ first)) →
        (first < number → IsAmong (Thing group number) (map (Thing group) (filter test (range_with_len (first + 1) count)))) →
        IsAmong (Thing group number)
        (map (Thing group) (if b then first ∷ filter test (range_with_len (first + 1) count) else filter test (range_with_len (first + 1) count)))
    by true e (inl same) later = inl (ap (Thing group) same.1)
    by true e (inr other) later = let apart = other.1 in inr (later (omega (arith, low, apart)))
    by false e (inl same) later = absurd (let none : true ≡ false = sym is ∙ ap test same.1 ∙ e in cc)
    by false e (inr other) later = let apart = other.1 in later (omega (arith, low, apart))

among_groups : (site : Site) (panel : ℕ) (slot : Slot) (group : Group) (groups : List Group) → IsAmong group groups
    → IsAmong slot (slots_of site panel group) → IsAmong slot (flat_map (slots_of site panel) groups)
among_groups site panel slot group [] here is = absurd here
among_groups site panel slot group (first ∷ groups) (inl here) is =
    among_left slot (slots_of site panel first) (flat_map (slots_of site panel) groups) (subst (λ g. IsAmong slot (slots_of site panel g)) here is)
among_groups site panel slot group (first ∷ groups) (inr there) is =
    among_right slot (slots_of site panel first) (flat_map (slots_of site panel) groups) (among_groups site panel slot group groups there is)

among_at : {X : Type 0} (xs : List X) (place : ℕ) (d : X) → place < length xs → IsAmong (get_or xs place d) xs
among_at [] place d within = absurd (omega (arith, within))
among_at (x ∷ xs) zero d within = inl refl
among_at (x ∷ xs) (suc place) d within = inr (among_at xs place d (omega (arith, within)))

-- each group stands at its rank, counted from 1
group_at : (group : Group) → HasPlace group → get_or page (group_rank group - 1) (Zones 0) ≡ group
unfolding page
group_at (Zones zero) place = absurd (omega (arith, place.0))
group_at (Zones (suc zero)) place = refl
group_at (Zones (suc (suc zero))) place = refl
group_at (Zones (suc (suc (suc zero)))) place = refl
group_at (Zones (suc (suc (suc (suc zero))))) place = refl
group_at (Zones (suc (suc (suc (suc (suc zero)))))) place = refl
group_at (Zones (suc (suc (suc (suc (suc (suc zero))))))) place = refl
group_at (Zones (suc (suc (suc (suc (suc (suc (suc zero)))))))) place = refl
group_at (Zones (suc (suc (suc (suc (suc (suc (suc (suc zero))))))))) place = refl
group_at (Zones (suc (suc (suc (suc (suc (suc (suc (suc (suc more)))))))))) place = absurd (omega (arith, place.1))
group_at (Firsts zero) place = absurd (omega (arith, place.0))
group_at (Firsts (suc zero)) place = refl
group_at (Firsts (suc (suc zero))) place = refl
group_at (Firsts (suc (suc (suc zero)))) place = refl
group_at (Firsts (suc (suc (suc (suc zero))))) place = refl
group_at (Firsts (suc (suc (suc (suc (suc zero)))))) place = refl
group_at (Firsts (suc (suc (suc (suc (suc (suc zero))))))) place = refl
group_at (Firsts (suc (suc (suc (suc (suc (suc (suc zero)))))))) place = refl
group_at (Firsts (suc (suc (suc (suc (suc (suc (suc (suc zero))))))))) place = refl
group_at (Firsts (suc (suc (suc (suc (suc (suc (suc (suc (suc more)))))))))) place = absurd (omega (arith, place.1))
group_at (Missing zero) place = absurd (omega (arith, place.0))
group_at (Missing (suc zero)) place = refl
group_at (Missing (suc (suc zero))) place = refl
group_at (Missing (suc (suc (suc zero)))) place = refl
group_at (Missing (suc (suc (suc (suc zero))))) place = refl
group_at (Missing (suc (suc (suc (suc (suc more)))))) place = absurd (omega (arith, place.1))
group_at Broken place = refl
group_at Shorted place = refl
group_at Supplies place = refl
group_at Silent place = refl
group_at Links place = refl
group_at Unconfirmed place = refl
group_at Outputs place = refl
group_at Confirmed place = refl
group_at (PointsOff zero) place = absurd (omega (arith, place.0))
group_at (PointsOff (suc zero)) place = refl
group_at (PointsOff (suc (suc zero))) place = refl
group_at (PointsOff (suc (suc (suc zero)))) place = refl
group_at (PointsOff (suc (suc (suc (suc zero))))) place = refl
group_at (PointsOff (suc (suc (suc (suc (suc more)))))) place = absurd (omega (arith, place.1))
group_at ZonesOff place = refl
group_at OutputsOff place = refl
group_at Tests place = refl

rank_small : (group : Group) → HasPlace group → group_rank group ≤ 35
rank_small (Zones place) has = let most = has.1 in omega (arith, most)
rank_small (Firsts place) has = let most = has.1 in omega (arith, most)
rank_small (Missing place) has = let most = has.1 in omega (arith, most)
rank_small Broken has = omega arith
rank_small Shorted has = omega arith
rank_small Supplies has = omega arith
rank_small Silent has = omega arith
rank_small Links has = omega arith
rank_small Unconfirmed has = omega arith
rank_small Outputs has = omega arith
rank_small Confirmed has = omega arith
rank_small (PointsOff place) has = let most = has.1 in omega (arith, most)
rank_small ZonesOff has = omega arith
rank_small OutputsOff has = omega arith
rank_small Tests has = omega arith

group_there : (group : Group) → HasPlace group → IsAmong group page
group_there group has =
    let small = rank_small group has in
    subst (λ g. IsAmong g page) (group_at group has) (among_at page (group_rank group - 1) (Zones 0) (omega (arith, small, page_length)))

pub slot_there : (site : Site) (panel : ℕ) (slot : Slot) → IsSlotOf site panel slot → IsAmong slot (slots site panel)
slot_there site panel (Thing group number) is =
    among_left (Thing group number) (flat_map (slots_of site panel) page) (Delays ∷ Sounding ∷ Count ∷ [])
    (among_groups site panel (Thing group number) group page (group_there group is.0)
    (among_numbers group (λ n. is_named (name_in site panel group n)) number 1 (last_of group) is.1 (let high = is.2 in omega (arith, high)) is.3))
slot_there site panel Delays is = among_right Delays (flat_map (slots_of site panel) page) (Delays ∷ Sounding ∷ Count ∷ []) (inl refl)
slot_there site panel Sounding is = among_right Sounding (flat_map (slots_of site panel) page) (Delays ∷ Sounding ∷ Count ∷ []) (inr (inl refl))
slot_there site panel Count is = among_right Count (flat_map (slots_of site panel) page) (Delays ∷ Sounding ∷ Count ∷ []) (inr (inr (inl refl)))

-- what stands behind a place has a greater one
pub among_behind : (low high : ℕ) (slot : Slot) (all : List Slot) → RiseBetween low high all → IsAmong slot all → low < slot_rank slot
among_behind low high slot [] rise is = absurd is
among_behind low high slot (first ∷ all) rise (inl here) = subst (λ s. low < slot_rank s) (sym here) rise.0
among_behind low high slot (first ∷ all) rise (inr there) = let one = rise.0 in
    omega (arith, one, among_behind (slot_rank first) high slot all rise.1 there)
