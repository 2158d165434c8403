-- The signals of two points that end just now, both of a zone or one of it and one of its partner.
use Rattle.std.proofs.Common.{◌≡◌, ℕ, ◌+◌, ◌-◌, ◌≤◌, ◌<◌, ◌&&◌, ◌||◌, max, Bool, true, false, List, Option, Some, None, slice_get, length, refl, sym, ◌∙◌, subst, arith}
use Rattle.std.proofs.lemmas.Option.{slice_get_within}
use Rattle.site_types.specs.declared.retained.Retained.{Retained}
use Rattle.site_types.specs.declared.rule.Rule.TheVariants.{B, C}
use Rattle.site_types.specs.declared.site.Site.{Site}
use Rattle.site_types.specs.declared.zone.Zone.{Zone}
use Rattle.site_types.specs.Done.{Done, cancelled_before, floor_before}
use Rattle.site_types.specs.Profile.{round_of}
use Rattle.site_types.specs.Valid.{IsValid}
use Rattle.site_types.proofs.ValidSites.{partner_of_zone}
use Rattle.coincidence_rules.specs.Places.{is_of, on_partner, pairs_up, partner_of, rule_of}
use Rattle.panel_rules.specs.Moments.{Moment}
use Rattle.panel_rules.specs.Due.{PairSignals, SecondSignals, TwoHeld}
use Rattle.zone_signals.specs.declared.kind.Kind.{Kind}
use Rattle.zone_signals.specs.declared.kind.Kind.TheVariants.{Any, Detector}
use Rattle.zone_signals.specs.Kinds.{fits_kind}
use Rattle.zone_signals.specs.Rounds.{HasPairAfter}
use Rattle.zone_signals.proofs.NoFloors.{cancelling_clear, cancelling_past, floor_clear, floor_past}
use Rattle.zone_signals.proofs.SignalsEnd.{held_both, held_now}

-- a partner is one of the site's zones
pub partner_within : (site : Site) (zone other : ℕ) → IsValid site → partner_of (slice_get site.zones zone) ≡ Some other → other < length site.zones
partner_within site zone other valid is = go (slice_get site.zones zone) refl is
  where
    go : (o : Option Zone) → slice_get site.zones zone ≡ o → partner_of o ≡ Some other → other < length site.zones
    go None at has = absurd cc
    go (Some plan) at has = (let there = partner_of_zone site valid zone plan other at has in slice_get_within site.zones other there.zone there.is)

-- one of the points of a pair is of the zone itself
own_point : (site : Site) (zone one other : ℕ) → pairs_up site zone one (λ z. is_of site z other) ≡ true → (is_of site zone one || is_of site zone other) ≡ true
own_point site zone one other pairs =
    go (is_of site zone one) (is_of site zone other) (on_partner site zone (λ z. is_of site z other)) (on_partner site zone (λ z. is_of site z one)) pairs
  where
    go : (a b c d : Bool) → ((a && (b || c)) || (d && b)) ≡ true → (a || b) ≡ true
    go true b c d h = refl
    go false true c d h = refl
    go false false c true h = h
    go false false c false h = h

-- the tick after which a pair of type B is held, by the zone of a point
abbrev pub pair_bar : Site → List Done → ℕ → ℕ → ℕ → ℕ
pair_bar site done now within other = max (max (floor_before site other now done) (cancelled_before other now done)) (now - (within + 2))

module _ (site : Site) (kept : Retained) (done : List Done) (moments : List Moment) (zone now start : ℕ) (some : 1 ≤ round_of site.format) (is : start
    ≡ now - round_of site.format) where
  whole_round : 1 ≤ start → now - round_of site.format + round_of site.format ≡ now
  whole_round one = omega (arith, one, is)

  -- a pair that is held, the second point for the round that ends now
  pair_after : (kind : Kind) (bar : ℕ → ℕ) (one other first : ℕ) → TwoHeld site kept done moments one other first (now - round_of site.format)
      → pairs_up site zone one (λ z. is_of site z other) ≡ true → ((z : ℕ) → (is_of site z one || is_of site z other) ≡ true → bar z < first)
      → fits_kind kind site one ≡ true → fits_kind kind site other ≡ true → HasPairAfter site kept done moments kind zone bar (start - 1) now
  pair_after kind bar one other first two pairs since fits other_fits =
      let begins = two.begins in
      let follows = two.follows in
      record {
        first_point = one;
        second_point = other;
        first = first;
        second = now - round_of site.format;
        differ = two.differ;
        pairs = pairs;
        since = since;
        one = record { fits = fits; since = omega (arith, begins); held = two.first_held; ended = omega (arith, begins, follows) };
        two = held_now site kept done moments zone now start some is kind one other first two other_fits;
      }

  pub pair_of : (within : ℕ) → 1 ≤ start → rule_of (slice_get site.zones zone) ≡ Some (B within)
      → HasPairAfter site kept done moments Detector zone (pair_bar site done now within) (start - 1) now
      → PairSignals site kept done moments zone now (now - round_of site.format)
  pair_of within one rule pair =
      let own = pair.since zone (own_point site zone pair.first_point pair.second_point pair.pairs) in
      record {
        first_point = pair.first_point;
        second_point = pair.second_point;
        first = pair.first;
        within = within;
        held = held_both site kept done moments zone now start some is Detector 0 pair.first_point pair.second_point pair.first pair.second one pair.differ pair.one
            pair.two;
        rule = rule;
        near = omega (arith, own, one, is);
        pairs = pair.pairs;
        first_detects = pair.one.fits;
        second_detects = pair.two.fits;
        floors = λ other of.
            (let bar = pair.since other of in
            floor_clear site done other pair.first (now - round_of site.format + round_of site.format)
            (subst (λ n. floor_before site other n done < pair.first) (sym (whole_round one)) (omega (arith, bar))));
        cancellings = λ other of.
            (let bar = pair.since other of in
            cancelling_clear done other pair.first (now - round_of site.format + round_of site.format)
            (subst (λ n. cancelled_before other n done < pair.first) (sym (whole_round one)) (omega (arith, bar))));
        floor = floor_clear site done zone pair.first now (omega (arith, own));
      }

  pub of_pair : (within : ℕ) → rule_of (slice_get site.zones zone) ≡ Some (B within)
      → PairSignals site kept done moments zone now (now - round_of site.format)
      → HasPairAfter site kept done moments Detector zone (pair_bar site done now within) (start - 1) now
  of_pair within rule signal =
      let begins = signal.held.begins in
      let follows = signal.held.follows in
      let same : signal.within ≡ within = (let e = sym signal.rule ∙ rule in cc) in
      let near = signal.near in
      let last : now - round_of site.format + round_of site.format ≡ now = omega (arith, begins, follows) in
      pair_after Detector (pair_bar site done now within) signal.first_point signal.second_point signal.first signal.held signal.pairs
      (λ other of.
      (let floor : floor_before site other now done < signal.first =
      subst (λ n. floor_before site other n done < signal.first) last
      (floor_past site done other signal.first (now - round_of site.format + round_of site.format) (now - round_of site.format + round_of site.format)
      begins (omega arith) (signal.floors other of)) in
      let cancelled : cancelled_before other now done < signal.first =
      subst (λ n. cancelled_before other n done < signal.first) last
      (cancelling_past done other signal.first (now - round_of site.format + round_of site.format) begins (signal.cancellings other of)) in
      omega (arith, floor, cancelled, near, same, begins, follows)))
      signal.first_detects signal.second_detects

  pub second_of : 1 ≤ start → rule_of (slice_get site.zones zone) ≡ Some C
      → HasPairAfter site kept done moments Any zone (λ other. floor_before site other now done) (start - 1) now
      → SecondSignals site kept done moments zone now (now - round_of site.format)
  second_of one rule pair =
      let own = pair.since zone (own_point site zone pair.first_point pair.second_point pair.pairs) in
      record {
        first_point = pair.first_point;
        second_point = pair.second_point;
        first = pair.first;
        held = held_both site kept done moments zone now start some is Any 0 pair.first_point pair.second_point pair.first pair.second one pair.differ pair.one
            pair.two;
        rule = rule;
        pairs = pair.pairs;
        floors = λ other of.
            floor_clear site done other pair.first (now - round_of site.format + round_of site.format)
            (subst (λ n. floor_before site other n done < pair.first) (sym (whole_round one)) (pair.since other of));
        floor = floor_clear site done zone pair.first now own;
      }

  pub of_second : SecondSignals site kept done moments zone now (now - round_of site.format)
      → HasPairAfter site kept done moments Any zone (λ other. floor_before site other now done) (start - 1) now
  of_second signal =
      let begins = signal.held.begins in
      let follows = signal.held.follows in
      let last : now - round_of site.format + round_of site.format ≡ now = omega (arith, begins, follows) in
      pair_after Any (λ other. floor_before site other now done) signal.first_point signal.second_point signal.first signal.held signal.pairs
      (λ other of.
      subst (λ n. floor_before site other n done < signal.first) last
      (floor_past site done other signal.first (now - round_of site.format + round_of site.format) (now - round_of site.format + round_of site.format)
      begins (omega arith) (signal.floors other of)))
      refl refl
