-- Zones take the findings of a run.
use Rattle.std.proofs.Common.{◌≡◌, inl, inr, ℕ, ◌+◌, ◌/◌, ◌<◌, ◌≤◌, ◌^◌, arith, List, true, false, ◌++◌, [], ◌∷◌, bit_or, refl, sym, ◌∙◌, ap, slice_get, subst}
use Rattle.std.specs.Int.{w32, trailing_zeros}
use Rattle.site_types.proofs.Done.{lt_tells}
use Rattle.site_types.proofs.Masks.{has_bit-above}
use Rattle.answer_lanes.specs.declared.finding_group.FindingGroup.{FindingGroup}
use Rattle.answer_lanes.specs.declared.run.Run.{Run}
use Rattle.answer_lanes.specs.Points.{finding_at}
use Rattle.answer_lanes.specs.Runs.{items_of}
use Rattle.coincidence_rules.specs.declared.finding.Finding.{Finding}
use Rattle.site_types.specs.Bits.{has_bit}
use Rattle.panel_conditions.specs.declared.zones.Zones.{Zones}
use Rattle.panel_conditions.specs.Parts.{HasTelling, IsShown, Marks, told_by}
use Rattle.panel_conditions.specs.Stands.{WatchesZones, ZonesTake}
use Rattle.panel_conditions.specs.Changes.{TakesTold, ZonesTakeAll, TellSame}
use Rattle.panel_conditions.specs.Told.{group_run}
use Rattle.panel_conditions.proofs.NextBit.{IsNext, next_from}
use Rattle.panel_conditions.proofs.AlreadyShown.{settled_taken}
use Rattle.panel_conditions.proofs.Runs.{taken_by_none, taken_by_nothing, zones_as}
use Rattle.panel_conditions.proofs.Watched.{are_numbered, zones_more}

-- a run of which none tells
pub run_of_none : (run : Run FindingGroup) (zones : Zones) → ((k : ℕ) → k < run.count → has_bit run.first.telling (run.taken + k) ≡ false)
    → ZonesTakeAll (items_of finding_at run) zones zones
run_of_none run zones none = record {
  watches = λ site panel done taken h. taken_by_none site panel done taken run zones.watches.items none h;
  settled = λ site panel done taken tick h settled. settled;
  moved = refl;
}

-- a run whose group tells of no zone
pub run_of_nothing : (run : Run FindingGroup) (zones : Zones) → run.first.telling ≡ 0 → ZonesTakeAll (items_of finding_at run) zones zones
run_of_nothing run zones none = record {
  watches = λ site panel done taken h. taken_by_nothing site panel done taken run zones.watches.items none h;
  settled = λ site panel done taken tick h settled. settled;
  moved = refl;
}

marks_from : (f : Finding) (old mid zones : Zones) → mid.changed ≡ old.changed → mid.signs ≡ old.signs → Marks f mid zones → Marks f old zones
marks_from f old mid zones changed signs (inl marked) = inl (marked ∙ ap (λ m. bit_or m (told_by f)) changed)
marks_from f old mid zones changed signs (inr stays) = inr (stays.0 ∙ changed, subst (IsShown f) signs stays.1)

-- one of a group's findings tells of zones
pub group_tells_some : (group : FindingGroup) → 0 < group.telling → group.telling < 2 ^ 8 → HasTelling (group_run group)
group_tells_some group some small = record {
  place = place;
  from = omega arith;
  below = elim (lt_tells place 8) [ inl near ↦ near.1 | inr far ↦ absurd (apart (beyond far.1)) ];
  tells = next.set;
}
  where
    mask : ℕ
    mask = group.telling

    place : ℕ
    place = 0 + trailing_zeros w32 (mask / 2 ^ 0)

    next : IsNext mask 0 place
    next = next_from mask 0 (trailing_zeros w32 (mask / 2 ^ 0)) (omega (arith, small)) (omega arith) (omega (arith, some)) refl

    apart : false ≡ true → ⊥
    apart e = cc

    beyond : 8 ≤ place → false ≡ true
    beyond far = sym (has_bit-above 8 mask place small far) ∙ next.set

-- zones that take findings take any others that tell the same
pub zones_same : (one other : List Finding) (old zones : Zones) → TellSame one other → ZonesTakeAll one old zones → ZonesTakeAll other old zones
zones_same one other old zones same took = record {
  watches = λ site panel done taken h.
      zones_as site panel done taken one other zones.watches.items same (took.watches site panel done taken h);
  settled = took.settled;
  moved = took.moved;
}

-- what one finding tells of zones is taken of all that tell the same
pub taken_as_told : (f : Finding) (old mid zones : Zones) → ZonesTake f old mid → Marks f mid zones
    → (zones.watches ≡ mid.watches) × (zones.signs ≡ mid.signs) × (zones.moved ≡ mid.moved) → TakesTold f old zones
taken_as_told f old mid zones took marks rest findings same = record {
  watches = λ site panel done taken h.
      let before = old.watches.items in
      let numbered = are_numbered site panel done taken before h in
      subst (λ w. WatchesZones site panel done (taken ++ findings) w.items) (sym rest.0)
      (zones_as site panel done taken (f ∷ []) findings mid.watches.items same
      (zones_more site panel done taken f before mid.watches.items took.count (took.watches numbered) h));
  settled = λ site panel done taken tick h settled.
      let numbered = are_numbered site panel done taken old.watches.items h in
      settled_taken tick f old zones numbered (λ k. ap (λ w. slice_get w.items k) rest.0 ∙ took.watches numbered k) (rest.1 ∙ took.signs)
      (rest.2 ∙ took.moved) settled (marks_from f old mid zones took.changed took.signs marks);
  moved = rest.2 ∙ took.moved;
}
