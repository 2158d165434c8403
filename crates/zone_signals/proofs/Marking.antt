-- Marks on zones, and what ends in zones without one: nothing.
use Rattle.std.proofs.Common.{◌≡◌, ◌⊎◌, inl, inr, ℕ, zero, suc, ◌+◌, ◌-◌, ◌≤◌, ◌<◌, ◌&&◌, ◌||◌, Bool, true}
use Rattle.std.proofs.Common.{false, List, [], ◌∷◌, Option, Some, None, slice_get, get_or, length, refl, sym, ◌∙◌, ap, subst, arith}
use Rattle.std.proofs.lemmas.Bool.{cases_lt}
use Rattle.std.proofs.lemmas.Option.{same_Some, slice_get-get_or, slice_get_within}
use Rattle.site_types.specs.declared.retained.Retained.{Retained}
use Rattle.site_types.specs.declared.site.Site.{Site}
use Rattle.site_types.specs.Done.{Done, floor_before}
use Rattle.site_types.specs.Profile.{round_of}
use Rattle.coincidence_rules.specs.Places.{is_of, on_partner, pairs_up, partner_of}
use Rattle.panel_rules.specs.Moments.{Moment}
use Rattle.panel_rules.specs.Due.{CallPointSignals, DetectorSignals, IsHeld, SecondSignals}
use Rattle.panel_rules.proofs.Bools.{both, parts}
use Rattle.panel_rules.proofs.Floors.{le_to, lt_to}
use Rattle.point_runs.specs.declared.point_run.PointRun.{PointRun}
use Rattle.zone_signals.specs.declared.zone_settled.ZoneSettled.{ZoneSettled}
use Rattle.zone_signals.specs.Ended.{EndedAlone, EndedCalls, EndedRounds, EndedSeconds, RoundSignals, by_one, by_pair, by_two}
use Rattle.zone_signals.specs.Least.{IsLeastTick}
use Rattle.zone_signals.specs.Marks.{AreZonesMarked, AreMarkedFor, HasNoMark, MarksPoint, lasts_since}
use Rattle.zone_signals.specs.Rounds.{AreRuns}
use Rattle.zone_signals.specs.Stands.{ZoneStands}
use Rattle.zone_signals.proofs.HeldRounds.{differ, of_through}
use Rattle.zone_signals.proofs.PairsHeld.{on_found}
use Rattle.zone_signals.proofs.TicksOn.{alone_kept, alone_none, calls_kept, calls_none, rounds_kept, rounds_none, seconds_kept, seconds_none}
use Rattle.zone_signals.proofs.ZonePlaces.{point_within}

missing : (runs : List PointRun) (k : ℕ) → k < length runs → slice_get runs k ≡ None → ⊥
missing [] k less at = omega (arith, less)
missing (run ∷ rest) zero less at = cc
missing (run ∷ rest) (suc k) less at = missing rest k (omega (arith, less)) at

pub none_marked : (site : Site) (runs : List PointRun) (start : ℕ) (marks : List Bool) → AreMarkedFor site runs start marks 0
none_marked site runs start marks place zone run less at lasts of unmarked = omega (arith, less)

pub one_marked : (site : Site) (runs : List PointRun) (start k : ℕ) (other : PointRun) (old new : List Bool) → k < length runs
    → MarksPoint site (get_or runs k other) k start old new → AreMarkedFor site runs start old k → AreMarkedFor site runs start new (k + 1)
one_marked site runs start k other old new inside marks before place zone run less at lasts of unmarked =
    elim (cases_lt place k) [
      | inl earlier ↦ before place zone run earlier at lasts of (marks zone unmarked).0
      | inr here ↦
          (let same : k ≡ place = omega (arith, less, here) in
          let is : get_or runs k other ≡ run =
          same_Some (get_or runs k other) run (sym (slice_get-get_or runs k other inside) ∙ subst (λ n. slice_get runs n ≡ Some run) (sym same) at) in
          differ (is_of site zone place) of
          (subst (λ n. is_of site zone n ≡ false) same ((marks zone unmarked).1 (ap (lasts_since start) is ∙ lasts))))
    ]

pub all_marked : (site : Site) (runs : List PointRun) (start : ℕ) (marks : List Bool) → AreMarkedFor site runs start marks (length runs)
    → AreZonesMarked site runs start marks
all_marked site runs start marks marked first place zone run less at lasts of unmarked =
    marked place zone run (slice_get_within runs place run at) at lasts of unmarked

-- a zone without a mark has no point whose run lasts
module _ (site : Site) (kept : Retained) (done : List Done) (moments : List Moment) (now : ℕ) (runs : List PointRun) (marks : List Bool) (zone : ℕ)
    (told : AreRuns site kept done moments now runs) (marked : AreZonesMarked site runs (now - round_of site.format) marks)
    (calm : HasNoMark marks zone (partner_of (slice_get site.zones zone))) where
  none_held : (other point : ℕ) → (other ≡ zone) ⊎ (partner_of (slice_get site.zones zone) ≡ Some other) → is_of site other point ≡ true
      → 1 ≤ now - round_of site.format → IsHeld site kept done moments point (now - round_of site.format) → ⊥
  none_held other point near of one held =
      let within = point_within site other point of in
      let whole = told.whole in
      let inside : point < length runs = omega (arith, whole, within) in
      go (slice_get runs point) refl inside
    where
      go : (o : Option PointRun) → slice_get runs point ≡ o → point < length runs → ⊥
      go None at inside = absurd (missing runs point inside at)
      go (Some run) at inside =
          let some = told.some in
          let last : now - round_of site.format + round_of site.format ≡ now = omega (arith, one) in
          let since =
          of_through site kept done moments told.signals told.tells point now (now - round_of site.format) run one (omega (arith, one, some))
          (told.each point run at)
          (λ tick low high. held tick low (subst (λ n. tick < n) (sym last) high)) in
          marked (point + 1) point other run (omega arith) at
          (both _ _ (lt_to 0 run.since (let s = since.0 in omega (arith, s))) (le_to run.since (now - round_of site.format) since.1)) of (calm other near)

  pub no_call : CallPointSignals site kept done moments zone now (now - round_of site.format) → ⊥
  no_call signal = none_held zone signal.point (inl refl) (parts _ _ signal.calls).0 signal.begins signal.held

  -- the second point of a pair is of the zone or of its partner
  second_near : (one other : ℕ) → pairs_up site zone one (λ z. is_of site z other) ≡ true
      → (z : ℕ) × ((z ≡ zone) ⊎ (partner_of (slice_get site.zones zone) ≡ Some z)) × (is_of site z other ≡ true)
  second_near one other pairs =
      go (is_of site zone one) (is_of site zone other) refl (on_partner site zone (λ z. is_of site z other)) refl
      (on_partner site zone (λ z. is_of site z one)) pairs
    where
      go : (a b : Bool) → is_of site zone other ≡ b → (c : Bool) → on_partner site zone (λ z. is_of site z other) ≡ c → (d : Bool)
          → ((a && (b || c)) || (d && b)) ≡ true
          → (z : ℕ) × ((z ≡ zone) ⊎ (partner_of (slice_get site.zones zone) ≡ Some z)) × (is_of site z other ≡ true)
      go a true of c on d h = (zone, inl refl, of)
      go true false of true on d h =
          (let found = on_found (λ z. is_of site z other) (partner_of (slice_get site.zones zone)) on in (found.0, inr found.1, found.2))
      go true false of false on true h = cc
      go true false of false on false h = cc
      go false false of c on true h = cc
      go false false of c on false h = cc

  pub no_round : RoundSignals site kept done moments zone now (now - round_of site.format) → ⊥
  no_round (by_one signal) = none_held zone signal.point (inl refl) signal.of_zone signal.begins signal.held
  no_round (by_two signal) =
      let begins = signal.held.begins in
      let follows = signal.held.follows in
      none_held zone signal.second_point (inl refl) signal.second_of_zone (omega (arith, begins, follows)) signal.held.second_held
  no_round (by_pair signal) =
      let begins = signal.held.begins in
      let follows = signal.held.follows in
      let near = second_near signal.first_point signal.second_point signal.pairs in
      none_held near.0 signal.second_point near.1 near.2 (omega (arith, begins, follows)) signal.held.second_held

  pub no_second : SecondSignals site kept done moments zone now (now - round_of site.format) → ⊥
  no_second signal =
      let begins = signal.held.begins in
      let follows = signal.held.follows in
      let near = second_near signal.first_point signal.second_point signal.pairs in
      none_held near.0 signal.second_point near.1 near.2 (omega (arith, begins, follows)) signal.held.second_held

  pub no_detector : DetectorSignals site kept done moments zone now (now - round_of site.format + 1) → ⊥
  no_detector signal =
      let begins = signal.begins in
      let settles = signal.settles in
      let some = told.some in
      none_held zone signal.point (inl refl) signal.of_zone (omega (arith, begins, settles, some))
      (λ tick low high. signal.signals tick (omega (arith, low, settles, some)) (omega (arith, high, begins, settles, some)))

  -- so what is kept of it stays
  pub stays_calm : 1 ≤ now → floor_before site zone now done + 1 < now → (settled : ZoneSettled) → ZoneStands site kept done moments (now - 1) zone settled
      → ZoneStands site kept done moments now zone settled
  stays_calm begun no_floor settled stands = record {
    by_hand = calls settled.by_hand stands.by_hand;
    round = rounds settled.round stands.round;
    alone = detectors settled.alone stands.alone;
    second = seconds settled.second stands.second;
  }
    where
      calls : (o : Option ℕ) → IsLeastTick (EndedCalls site kept done moments zone (now - 1)) o → IsLeastTick (EndedCalls site kept done moments zone now) o
      calls None none = calls_none site kept done moments zone now begun told.some no_floor no_call none
      calls (Some least) is = calls_kept site kept done moments zone now begun told.some no_floor least is

      rounds : (o : Option ℕ) → IsLeastTick (EndedRounds site kept done moments zone (now - 1)) o → IsLeastTick (EndedRounds site kept done moments zone now) o
      rounds None none = rounds_none site kept done moments zone now begun told.some no_floor no_round none
      rounds (Some least) is = rounds_kept site kept done moments zone now begun told.some no_floor least is

      detectors : (o : Option ℕ) → IsLeastTick (EndedAlone site kept done moments zone (now - 1)) o → IsLeastTick (EndedAlone site kept done moments zone now) o
      detectors None none = alone_none site kept done moments zone now begun told.some no_floor no_detector none
      detectors (Some least) is = alone_kept site kept done moments zone now begun told.some no_floor least is

      seconds : (o : Option ℕ) → IsLeastTick (EndedSeconds site kept done moments zone (now - 1)) o
          → IsLeastTick (EndedSeconds site kept done moments zone now) o
      seconds None none = seconds_none site kept done moments zone now begun told.some no_floor no_second none
      seconds (Some least) is = seconds_kept site kept done moments zone now begun told.some no_floor least is
