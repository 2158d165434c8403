-- Points and zones take findings that come one behind the other.
use Rattle.std.proofs.Common.{◌≡◌, [], ◌++◌, ◌∙◌, ℕ, Bool, List, Some, if◌then◌else◌, false, true, refl, sym, ap, slice_get, subst}
use Rattle.std.proofs.Common.{append_assoc, append-nil}
use Rattle.site_types.specs.Bits.{has_bit}
use Rattle.answer_lanes.specs.declared.finding_block.FindingBlock.{FindingBlock}
use Rattle.answer_lanes.specs.declared.finding_eight.FindingEight.{FindingEight}
use Rattle.answer_lanes.specs.Blocks.{block_finding_at, eight_finding_at, eight_found, plainly}
use Rattle.answer_lanes.specs.Points.{finding_at}
use Rattle.answer_lanes.specs.Runs.{items_of}
use Rattle.coincidence_rules.specs.declared.finding.Finding.{Finding}
use Rattle.panel_conditions.specs.declared.points.Points.{Points}
use Rattle.panel_conditions.specs.declared.zones.Zones.{Zones}
use Rattle.panel_conditions.specs.Changes.{TakesPoints, ZonesTakeAll}
use Rattle.panel_conditions.specs.Stands.{WatchesPoints, WatchesZones}
use Rattle.panel_conditions.specs.Told.{AreToldInBlock, AreToldInEight, block_run, eight_run}
use Rattle.panel_conditions.proofs.Runs.{all_again}

pub points_none : (p : Points) → TakesPoints [] p p
points_none p = record {
  watches = λ site kept panel done taken h. subst (λ l. WatchesPoints site kept panel done l p) (sym (append-nil taken)) h;
  off = (refl, refl);
  missing = λ same. (same, refl);
}

-- some, and others behind them
pub points_then : (first second : List Finding) (p q r : Points) → TakesPoints first p q → TakesPoints second q r → TakesPoints (first ++ second) p r
points_then first second p q r a b = record {
  watches = λ site kept panel done taken h.
      subst (λ l. WatchesPoints site kept panel done l r) (append_assoc taken first second)
      (b.watches site kept panel done (taken ++ first) (a.watches site kept panel done taken h));
  off = (b.off.0 ∙ a.off.0, b.off.1 ∙ a.off.1);
  missing = λ same.
      let now = b.missing same in
      let before = a.missing now.0 in
      (before.0, now.1 ∙ before.1);
}

pub zones_none : (z : Zones) → ZonesTakeAll [] z z
zones_none z = record {
  watches = λ site panel done taken h. subst (λ l. WatchesZones site panel done l z.watches.items) (sym (append-nil taken)) h;
  settled = λ site panel done taken tick h settled. settled;
  moved = refl;
}

pub zones_then : (first second : List Finding) (x y z : Zones) → ZonesTakeAll first x y → ZonesTakeAll second y z → ZonesTakeAll (first ++ second) x z
zones_then first second x y z a b = record {
  watches = λ site panel done taken h.
      subst (λ l. WatchesZones site panel done l z.watches.items) (append_assoc taken first second)
      (b.watches site panel done (taken ++ first) (a.watches site panel done taken h));
  settled = λ site panel done taken tick h settled.
      b.settled site panel done (taken ++ first) tick (a.watches site panel done taken h) (a.settled site panel done taken tick h settled);
  moved = b.moved ∙ a.moved;
}

-- what a whole block holds is what its eights do
pub block_items : (block : FindingBlock)
    → ((items_of eight_finding_at (eight_run block 0) ++ items_of eight_finding_at (eight_run block 1)) ++ items_of eight_finding_at (eight_run block 2))
    ++ items_of eight_finding_at (eight_run block 3) ≡ items_of block_finding_at (block_run block)
block_items block = refl

-- a whole block is taken by its eights
pub points_by_eights : (block : FindingBlock) (p q r s t : Points) → TakesPoints (items_of eight_finding_at (eight_run block 0)) p q
    → TakesPoints (items_of eight_finding_at (eight_run block 1)) q r → TakesPoints (items_of eight_finding_at (eight_run block 2)) r s
    → TakesPoints (items_of eight_finding_at (eight_run block 3)) s t → TakesPoints (items_of block_finding_at (block_run block)) p t
points_by_eights block p q r s t a b c d =
    subst (λ found. TakesPoints found p t) (block_items block)
    (points_then _ _ p s t (points_then _ _ p r s (points_then _ _ p q r a b) c) d)

pub zones_by_eights : (block : FindingBlock) (v w x y z : Zones) → ZonesTakeAll (items_of eight_finding_at (eight_run block 0)) v w
    → ZonesTakeAll (items_of eight_finding_at (eight_run block 1)) w x → ZonesTakeAll (items_of eight_finding_at (eight_run block 2)) x y
    → ZonesTakeAll (items_of eight_finding_at (eight_run block 3)) y z → ZonesTakeAll (items_of block_finding_at (block_run block)) v z
zones_by_eights block v w x y z a b c d =
    subst (λ found. ZonesTakeAll found v z) (block_items block)
    (zones_then _ _ v y z (zones_then _ _ v x y (zones_then _ _ v w x a b) c) d)

-- the finding at a place of an eight tells of its point what that of the group does
pub eight_point : (eight : FindingEight) (place : ℕ) → (eight_finding_at eight place).point ≡ (finding_at eight.group place).point
eight_point eight place = by (has_bit eight.others place)
  where
    by : (b : Bool) → (finding_at (if b then plainly eight.other_zones eight.group else eight.group) place).point
        ≡ (finding_at eight.group place).point
    by true = refl
    by false = refl

pub eight_missing : (eight : FindingEight) (place : ℕ) → (eight_finding_at eight place).missing ≡ has_bit eight.group.missing place
eight_missing eight place = by (has_bit eight.others place)
  where
    by : (b : Bool) → (finding_at (if b then plainly eight.other_zones eight.group else eight.group) place).missing
        ≡ has_bit eight.group.missing place
    by true = refl
    by false = refl

-- points of which an eight tells nothing new
pub eight_again : (block : FindingBlock) (number : ℕ) (p : Points) → AreToldInEight p.told block number
    → TakesPoints (items_of eight_finding_at (eight_run block number)) p p
eight_again block number p told = record {
  watches = λ site kept panel done taken h.
      all_again eight_finding_at eight p site kept panel done 0 8 taken
      (λ place from below. ap (slice_get p.told) (eight_point eight place) ∙ told place from below ∙ ap Some (sym (eight_missing eight place))) h;
  off = (refl, refl);
  missing = λ same. (same, refl);
}
  where
    eight : FindingEight
    eight = eight_found block number

-- points of which a block tells nothing new
pub points_again : (block : FindingBlock) (points : Points) → AreToldInBlock points.told block
    → TakesPoints (items_of block_finding_at (block_run block)) points points
points_again block p told =
    points_by_eights block p p p p p (eight_again block 0 p told.0) (eight_again block 1 p told.1) (eight_again block 2 p told.2)
    (eight_again block 3 p told.3)
