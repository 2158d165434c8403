-- What is taken of the findings of a group, and of several runs.
use Rattle.std.proofs.Common.{◌≡◌, ◌∙◌, ◌++◌, ◌∷◌, ◌+◌, ◌-◌, ◌<◌, ◌≤◌, ◌&&◌, inl, inr, [], Bool, List, Some, not}
use Rattle.std.proofs.Common.{true, false, length, map, max, min, slice_get, take, zero, suc, ℕ, if◌then◌else◌, get_or}
use Rattle.std.proofs.Common.{refl, sym, ap, subst, arith, append_assoc, append-nil}
use Rattle.std.specs.List.{range_with_len}
use Rattle.std.proofs.lemmas.List.{map-append, take_more}
use Rattle.site_types.specs.Bits.{has_bit}
use Rattle.site_types.specs.declared.site.Site.{Site}
use Rattle.site_types.specs.declared.retained.Retained.{Retained}
use Rattle.site_types.specs.Done.{Done}
use Rattle.site_types.proofs.Done.{lt_tells}
use Rattle.site_types.proofs.Masks.{has_bit-zero}
use Rattle.coincidence_rules.specs.declared.finding.Finding.{Finding}
use Rattle.answer_lanes.specs.declared.finding_group.FindingGroup.{FindingGroup}
use Rattle.answer_lanes.specs.declared.run.Run.{Run}
use Rattle.answer_lanes.specs.Blocks.{group_tells}
use Rattle.answer_lanes.specs.Points.{finding_at, mask_if}
use Rattle.answer_lanes.specs.Runs.{all_items, items_of}
use Rattle.answer_lanes.proofs.Moving.{items_more, range_parts}
use Rattle.panel_conditions.specs.declared.points.Points.{Points}
use Rattle.panel_conditions.specs.declared.zone_watch.ZoneWatch.{ZoneWatch}
use Rattle.panel_conditions.specs.Changes.{TellSame}
use Rattle.panel_conditions.specs.Parts.{HasTelling, told_finding}
use Rattle.panel_conditions.specs.Told.{AreTold}
use Rattle.panel_conditions.specs.Stands.{WatchesPoints, WatchesZone, WatchesZones, latest_stamp}
use Rattle.panel_conditions.proofs.Latest.{latest-append}
use Rattle.panel_conditions.proofs.Watched.{points_again}

-- ---- the latest stamp that a group's findings tell

-- where each finding of a group passes a test exactly if it tells of zones and something holds of all
module _ (group : FindingGroup) (test : Finding → Bool) (base : Bool) (is :
    (place : ℕ) → test (finding_at group place) ≡ (has_bit group.telling place && base)) where
  abbrev bound : ℕ
  bound = if base then group.stamp.0 else 0

  -- one that tells makes the bound
  told_one : (place : ℕ) → has_bit group.telling place ≡ true → (if test (finding_at group place) then group.stamp.0 else 0) ≡ bound
  told_one place tells = ap (λ b. if b then group.stamp.0 else 0) (is place ∙ ap (λ b. b && base) tells)

  -- none makes more
  one_most : (place : ℕ) → (if test (finding_at group place) then group.stamp.0 else 0) ≤ bound
  one_most place = subst (λ b. (if b then group.stamp.0 else 0) ≤ bound) (sym (is place)) (by (has_bit group.telling place) base)
    where
      by : (tells base : Bool) → (if tells && base then group.stamp.0 else 0) ≤ (if base then group.stamp.0 else 0)
      by true base = omega arith
      by false base = omega arith

  latest_next : (from count : ℕ) → latest_stamp test (map (finding_at group) (range_with_len from (suc count)))
      ≡ max (if test (finding_at group from) then group.stamp.0 else 0) (latest_stamp test (map (finding_at group) (range_with_len (from + 1) count)))
  latest_next from count = refl

  latest_most : (from count : ℕ) → latest_stamp test (map (finding_at group) (range_with_len from count)) ≤ bound
  latest_most from zero = omega arith
  latest_most from (suc count) =
      let next = latest_next from count in
      let one = one_most from in
      let rest = latest_most (from + 1) count in
      omega (arith, next, one, rest)

  latest_least : (from count place : ℕ) → from ≤ place → place < from + count → has_bit group.telling place ≡ true
      → bound ≤ latest_stamp test (map (finding_at group) (range_with_len from count))
  latest_least from zero place le less tells = absurd (omega (arith, le, less))
  latest_least from (suc count) place le less tells = elim (lt_tells from place) [
    | inl later ↦ (let up = later.1 in let rest = latest_least (from + 1) count place (omega (arith, up)) (omega (arith, less)) tells in
        let next = latest_next from count in omega (arith, next, rest))
    | inr first ↦ (let down = first.1 in let here : place ≡ from = omega (arith, down, le) in
        let one = told_one from (ap (has_bit group.telling) (sym here) ∙ tells) in let next = latest_next from count in omega (arith, next, one))
  ]

  none_one : (place : ℕ) → has_bit group.telling place ≡ false → (if test (finding_at group place) then group.stamp.0 else 0) ≡ 0
  none_one place none = ap (λ b. if b then group.stamp.0 else 0) (is place ∙ ap (λ b. b && base) none)

  pub latest_none : (from count : ℕ) → ((k : ℕ) → k < count → has_bit group.telling (from + k) ≡ false)
      → latest_stamp test (map (finding_at group) (range_with_len from count)) ≡ 0
  latest_none from zero none = refl
  latest_none from (suc count) none =
      let next = latest_next from count in
      let start : from + 0 ≡ from = omega arith in
      let one = none_one from (ap (has_bit group.telling) (sym start) ∙ none 0 (omega arith)) in
      let rest =
      latest_none (from + 1) count (λ k less. (let there : from + (k + 1) ≡ from + 1 + k = omega arith in
      ap (has_bit group.telling) (sym there) ∙ none (k + 1) (omega (arith, less)))) in
      omega (arith, next, one, rest)

  -- one that tells is as good as all
  pub latest_one : (from count place : ℕ) → from ≤ place → place < from + count → has_bit group.telling place ≡ true
      → latest_stamp test (finding_at group place ∷ []) ≡ latest_stamp test (map (finding_at group) (range_with_len from count))
  latest_one from count place le less tells =
      let one = told_one place tells in
      let most = latest_most from count in
      let least = latest_least from count place le less tells in
      omega (arith, one, most, least)

-- ---- all that is kept of zones goes by the latest stamps

-- zones that took findings stand as after any others that tell the same
pub zones_as : (site : Site) (panel : ℕ) (done : List Done) (taken one other : List Finding) (watches : List ZoneWatch) → TellSame one other
    → WatchesZones site panel done (taken ++ one) watches → WatchesZones site panel done (taken ++ other) watches
zones_as site panel done taken one other watches same h =
    record { count = h.count; each = λ k watch is. still k watch (h.each k watch is) }
  where
    behind : (test : Finding → Bool) → latest_stamp test one ≡ latest_stamp test other → latest_stamp test (taken ++ one) ≡ latest_stamp test (taken ++ other)
    behind test e = latest-append test taken one ∙ ap (λ n. max (latest_stamp test taken) n) e ∙ sym (latest-append test taken other)

    still : (k : ℕ) (watch : ZoneWatch) → WatchesZone site panel done (taken ++ one) k watch → WatchesZone site panel done (taken ++ other) k watch
    still k watch w = record {
      place = w.place;
      bit = w.bit;
      within = w.within;
      floor = w.floor;
      cancelled = w.cancelled;
      confirmed = w.confirmed ∙ behind (λ f. has_bit f.confirmed k) (same.confirmed k);
      called = w.called ∙ behind (λ f. has_bit f.manual k) (same.called k);
      released = w.released ∙ behind (λ f. has_bit f.released k) (same.released k);
      told = w.told ∙ behind (λ f. has_bit f.counted k && not (has_bit f.manual k)) (same.told k);
    }

-- a mask that is told where a group tells has its bits there
pub bit_if : (tells : Bool) (mask k : ℕ) → has_bit (mask_if tells mask) k ≡ (tells && has_bit mask k)
bit_if true mask k = refl
bit_if false mask k = has_bit-zero k

pub bits_if : (tells : Bool) (counted manual k : ℕ)
    → (has_bit (mask_if tells counted) k && not (has_bit (mask_if tells manual) k)) ≡ (tells && (has_bit counted k && not (has_bit manual k)))
bits_if true counted manual k = refl
bits_if false counted manual k = ap (λ b. b && not (has_bit 0 k)) (has_bit-zero k)

module _ (group : FindingGroup) (from count : ℕ) where
  abbrev items : List Finding
  items = map (finding_at group) (range_with_len from count)

  pub same_as_one : (place : ℕ) → from ≤ place → place < from + count → has_bit group.telling place ≡ true → TellSame (finding_at group place ∷ []) items
  same_as_one place le less tells = record {
    confirmed = λ k. latest_one group (λ f. has_bit f.confirmed k) (has_bit group.confirmed k) (λ p. bit_if (has_bit group.telling p) group.confirmed k)
        from count place le less tells;
    called = λ k. latest_one group (λ f. has_bit f.manual k) (has_bit group.manual k) (λ p. bit_if (has_bit group.telling p) group.manual k)
        from count place le less tells;
    released = λ k. latest_one group (λ f. has_bit f.released k) (has_bit group.released k) (λ p. bit_if (has_bit group.telling p) group.released k)
        from count place le less tells;
    told = λ k. latest_one group (λ f. has_bit f.counted k && not (has_bit f.manual k)) (has_bit group.counted k && not (has_bit group.manual k))
        (λ p. bits_if (has_bit group.telling p) group.counted group.manual k) from count place le less tells;
  }

  pub same_as_none : ((k : ℕ) → k < count → has_bit group.telling (from + k) ≡ false) → TellSame [] items
  same_as_none none = record {
    confirmed = λ k. sym (latest_none group (λ f. has_bit f.confirmed k) (has_bit group.confirmed k) (λ p. bit_if (has_bit group.telling p) group.confirmed k)
        from count none);
    called = λ k. sym (latest_none group (λ f. has_bit f.manual k) (has_bit group.manual k) (λ p. bit_if (has_bit group.telling p) group.manual k)
        from count none);
    released = λ k. sym (latest_none group (λ f. has_bit f.released k) (has_bit group.released k) (λ p. bit_if (has_bit group.telling p) group.released k)
        from count none);
    told = λ k. sym (latest_none group (λ f. has_bit f.counted k && not (has_bit f.manual k)) (has_bit group.counted k && not (has_bit group.manual k))
        (λ p. bits_if (has_bit group.telling p) group.counted group.manual k) from count none);
  }

-- findings that tell the same as others tell the same as what these do
pub same_then : (one other third : List Finding) → TellSame one other → TellSame other third → TellSame one third
same_then one other third a b = record {
  confirmed = λ k. a.confirmed k ∙ b.confirmed k;
  called = λ k. a.called k ∙ b.called k;
  released = λ k. a.released k ∙ b.released k;
  told = λ k. a.told k ∙ b.told k;
}

-- a finding that tells of zones tells the same as one of no point in particular
same_at : (group : FindingGroup) (place : ℕ) → has_bit group.telling place ≡ true
    → TellSame (told_finding group.stamp (group_tells group) ∷ []) (finding_at group place ∷ [])
same_at group place tells = record {
  confirmed = λ k. ap (λ b. latest_stamp (λ f. has_bit f.confirmed k) (at b ∷ [])) (sym tells);
  called = λ k. ap (λ b. latest_stamp (λ f. has_bit f.manual k) (at b ∷ [])) (sym tells);
  released = λ k. ap (λ b. latest_stamp (λ f. has_bit f.released k) (at b ∷ [])) (sym tells);
  told = λ k. ap (λ b. latest_stamp (λ f. has_bit f.counted k && not (has_bit f.manual k)) (at b ∷ [])) (sym tells);
}
  where
    at : Bool → Finding
    at tells = record {
      stamp = group.stamp;
      point = min (group.point + place) 65535;
      counted = mask_if tells group.counted;
      confirmed = mask_if tells group.confirmed;
      manual = mask_if tells group.manual;
      released = mask_if tells group.released;
      missing = has_bit group.missing place;
    }

-- a run of which some tell of zones tells what these do
pub run_tells : (run : Run FindingGroup) → HasTelling run → TellSame (told_finding run.first.stamp (group_tells run.first) ∷ []) (items_of finding_at run)
run_tells run some =
    same_then (told_finding run.first.stamp (group_tells run.first) ∷ []) (finding_at run.first some.place ∷ []) (items_of finding_at run)
    (same_at run.first some.place some.tells)
    (same_as_one run.first run.taken run.count some.place some.from some.below some.tells)

-- a run of which none tells is taken by none
pub taken_by_none : (site : Site) (panel : ℕ) (done : List Done) (taken : List Finding) (run : Run FindingGroup) (watches : List ZoneWatch)
    → ((k : ℕ) → k < run.count → has_bit run.first.telling (run.taken + k) ≡ false)
    → WatchesZones site panel done taken watches → WatchesZones site panel done (taken ++ items_of finding_at run) watches
taken_by_none site panel done taken run watches none h =
    zones_as site panel done taken [] (items_of finding_at run) watches (same_as_none run.first run.taken run.count none)
    (subst (λ l. WatchesZones site panel done l watches) (sym (append-nil taken)) h)

-- so is one whose group tells of no zone
pub taken_by_nothing : (site : Site) (panel : ℕ) (done : List Done) (taken : List Finding) (run : Run FindingGroup) (watches : List ZoneWatch)
    → run.first.telling ≡ 0 → WatchesZones site panel done taken watches → WatchesZones site panel done (taken ++ items_of finding_at run) watches
taken_by_nothing site panel done taken run watches none h =
    taken_by_none site panel done taken run watches
    (λ k less. ap (λ m. has_bit m (run.taken + k)) none ∙ has_bit-zero (run.taken + k)) h

-- ---- points of which nothing new is told

module _ {S : Type 0} (item_at : S → ℕ → Finding) (first : S) (points : Points) where
  pub all_again : (site : Site) (kept : Retained) (panel : ℕ) (done : List Done) (from count : ℕ) (taken : List Finding)
      → ((place : ℕ) → from ≤ place → place < from + count
      → slice_get points.told (item_at first place).point ≡ Some (item_at first place).missing)
      → WatchesPoints site kept panel done taken points
      → WatchesPoints site kept panel done (taken ++ map (item_at first) (range_with_len from count)) points
  all_again site kept panel done from zero taken told h =
      subst (λ l. WatchesPoints site kept panel done l points) (sym (append-nil taken)) h
  all_again site kept panel done from (suc count) taken told h =
      let item = item_at first from in
      subst (λ l. WatchesPoints site kept panel done l points)
      (append_assoc taken (item ∷ []) (map (item_at first) (range_with_len (from + 1) count)))
      (all_again site kept panel done (from + 1) count (taken ++ item ∷ [])
      (λ place le less. told place (omega (arith, le)) (omega (arith, less)))
      (points_again site kept panel done taken item points (told from (omega arith) (omega arith)) h))

pub run_again : (site : Site) (kept : Retained) (panel : ℕ) (done : List Done) (taken : List Finding) (run : Run FindingGroup) (points : Points)
    → AreTold points.told run →
    WatchesPoints site kept panel done taken points → WatchesPoints site kept panel done (taken ++ items_of finding_at run) points
run_again site kept panel done taken run points told h =
    all_again finding_at run.first points site kept panel done run.taken run.count taken told h

-- ---- what is taken

-- where the item at a place of what stands in a run is this
module _ {S : Type 0} (item_at : S → ℕ → Finding) where
  -- more items of a run
  pub items_then : (first : S) (from place more : ℕ) → from ≤ place →
      map (item_at first) (range_with_len from (place + more - from))
      ≡ map (item_at first) (range_with_len from (place - from)) ++ map (item_at first) (range_with_len place more)
  items_then first from place more le =
      let item = item_at first in
      let count : place + more - from ≡ (place - from) + more = omega (arith, le) in
      let last : from + (place - from) ≡ place = omega (arith, le) in
      ap (λ n. map item (range_with_len from n)) count ∙ ap (map item) (range_parts from (place - from) more)
      ∙ map-append item (range_with_len from (place - from)) (range_with_len (from + (place - from)) more)
      ∙ ap (λ n. map item (range_with_len from (place - from)) ++ map item (range_with_len n more)) last

  -- one more of the first items
  pub first_more : (first : S) (place : ℕ) → map (item_at first) (range_with_len 0 (place + 1))
      ≡ map (item_at first) (range_with_len 0 place) ++ item_at first place ∷ []
  first_more first place =
      let item = item_at first in
      let start : 0 + place ≡ place = omega arith in
      ap (map item) (range_parts 0 place 1) ∙ map-append item (range_with_len 0 place) (range_with_len (0 + place) 1)
      ∙ ap (λ n. map item (range_with_len 0 place) ++ item n ∷ []) start

  -- one more item of a run, behind those taken before
  pub item_more : (P : List Finding → Type 0) (taken : List Finding) (run : Run S) (place : ℕ) (f : Finding) → run.taken ≤ place
      → f ≡ item_at run.first place
      → P ((taken ++ map (item_at run.first) (range_with_len run.taken (place - run.taken))) ++ f ∷ [])
      → P (taken ++ map (item_at run.first) (range_with_len run.taken (place + 1 - run.taken)))
  item_more P taken run place f le is h =
      let before = map (item_at run.first) (range_with_len run.taken (place - run.taken)) in
      subst P (append_assoc taken before (f ∷ []) ∙ ap (λ g. taken ++ (before ++ g ∷ [])) is
      ∙ ap (λ l. taken ++ l) (sym (items_then run.first run.taken place 1 le))) h

  -- one more run
  pub run_more : (P : List Finding → Type 0) (taken : List Finding) (runs : List (Run S)) (k : ℕ) (d : Run S) → k < length runs
      → P ((taken ++ all_items item_at (take k runs)) ++ items_of item_at (get_or runs k d))
      → P (taken ++ all_items item_at (take (k + 1) runs))
  run_more P taken runs k d small h =
      let run = get_or runs k d in
      subst P (append_assoc taken (all_items item_at (take k runs)) (items_of item_at run)
      ∙ ap (λ l. taken ++ l) (sym (ap (all_items item_at) (take_more runs k d small) ∙ items_more item_at (take k runs) run))) h
