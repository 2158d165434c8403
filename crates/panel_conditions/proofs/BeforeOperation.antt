-- An operation changes nothing that is shown up to its own tick.
use Rattle.std.proofs.Common.{◌≡◌, ℕ, ◌+◌, ◌≤◌, Bool, not, List, [], ◌∷◌, Option, Some, None, slice_get, ◌&&◌, ◌||◌, nat_lt, nat_le, if◌then◌else◌, refl, ◌∙◌, ap, arith}
use Rattle.std.specs.List.{list_any}
use Rattle.site_types.specs.declared.site.Site.{Site}
use Rattle.site_types.specs.declared.point.Point.{Point}
use Rattle.site_types.specs.declared.rule.Rule.{Rule}
use Rattle.site_types.specs.declared.rule.Rule.TheVariants.{Plain, A, B, C}
use Rattle.site_types.specs.declared.retained.Retained.{Retained}
use Rattle.site_types.specs.declared.fault_set.FaultSet.{FaultSet}
use Rattle.site_types.specs.declared.word.Word.{Word}
use Rattle.site_types.specs.Done.{Done, PointOff, ZoneOff, in_force, floor_before, cancelled_before, mutes, muted_before}
use Rattle.site_types.proofs.Done.{in_force-yet, floor-yet, cancelled-yet, latest-yet}
use Rattle.site_types.proofs.Masks.{mask_same}
use Rattle.coincidence_rules.proofs.Later.{zones_same}
use Rattle.coincidence_rules.specs.declared.finding.Finding.{Finding}
use Rattle.coincidence_rules.specs.Places.{rule_of}
use Rattle.panel_conditions.specs.declared.outside.Outside.{Outside}
use Rattle.panel_conditions.specs.Points.{addressed, on_point, addresses_where, points_where}
use Rattle.panel_conditions.specs.Turns.{HoldTurn, findings_taken, latest_tick, AreRising}
use Rattle.panel_conditions.specs.Zones.{tells, found_since, alarm_found, tells_first, first_found_by}
use Rattle.panel_conditions.specs.Missing.{missing_found, zone_is_off, shows_missing}
use Rattle.panel_conditions.specs.Words.{with_missing, has_fault, faults_at, word_at, faults_after, word_after}
use Rattle.panel_conditions.specs.Shown.{is_news, is_in_fire_alarm, last_news, sounds, buzzer_after, entries_after}

point_same : (p q : ℕ → Bool) → ((place : ℕ) → p place ≡ q place) → (o : Option ℕ) → on_point p o ≡ on_point q o
point_same p q same None = refl
point_same p q same (Some place) = same place

addresses_same : (site : Site) (panel : ℕ) (p q : ℕ → Bool) (line past : ℕ) → ((place : ℕ) → p place ≡ q place)
    → addresses_where site panel p line past ≡ addresses_where site panel q line past
unfolding addresses_where
addresses_same site panel p q line past same =
    mask_same 96 (λ k. on_point p (addressed site panel line (past + k + 1))) (λ k. on_point q (addressed site panel line (past + k + 1)))
    (λ k small. point_same p q same (addressed site panel line (past + k + 1)))

pub points_same : (site : Site) (panel : ℕ) (p q : ℕ → Bool) → ((place : ℕ) → p place ≡ q place)
    → points_where site panel p ≡ points_where site panel q
unfolding points_where
points_same site panel p q same =
    let one = λ (line past : ℕ). addresses_same site panel p q line past same in
    rw (one 1 0, one 1 96, one 2 0, one 2 96, one 3 0, one 3 96, one 4 0, one 4 96) refl

-- words with the same masks
pub same_words : (tick : ℕ) (fault : Bool) {a b c e : ℕ} {a' b' c' e' : ℕ} → a ≡ a' → b ≡ b' → c ≡ c' → e ≡ e' →
    ◌≡◌ {A = Word} (record { stamp = record { 0 = tick }; alarm = a; manual = b; released = c; first = e; fault = fault })
    (record { stamp = record { 0 = tick }; alarm = a'; manual = b'; released = c'; first = e'; fault = fault })
same_words tick fault p q r s = cc

module _ (site : Site) (kept : Retained) (panel : ℕ) (d : Done) (done : List Done) where
  module _ (taken : List Finding) (tick : ℕ) (le : tick ≤ d.tick) where
    since-yet : (zone : ℕ) (test : Finding → Bool) → found_since site (d ∷ done) taken zone tick test ≡ found_since site done taken zone tick test
    since-yet zone test = ap (λ floor. list_any (λ f. nat_lt floor f.stamp.0 && test f) taken) (floor-yet site zone tick d done le)

    first_told-yet : (zone within : ℕ)
        → list_any (tells_first site (d ∷ done) within zone tick) taken ≡ list_any (tells_first site done within zone tick) taken
    first_told-yet zone within =
        ap (λ floor. list_any (λ f. (tells site zone f.counted && not (tells site zone f.manual))
        && ((nat_lt floor f.stamp.0 && nat_lt (cancelled_before zone tick (d ∷ done)) f.stamp.0) && nat_le tick (f.stamp.0 + within))) taken)
        (floor-yet site zone tick d done le)
        ∙ ap (λ cancelled. list_any (λ f. (tells site zone f.counted && not (tells site zone f.manual))
        && ((nat_lt (floor_before site zone tick done) f.stamp.0 && nat_lt cancelled f.stamp.0) && nat_le tick (f.stamp.0 + within))) taken)
        (cancelled-yet zone tick d done le)

    first_by-yet : (zone : ℕ) (rule : Option Rule)
        → first_found_by site (d ∷ done) taken zone tick rule ≡ first_found_by site done taken zone tick rule
    first_by-yet zone None = refl
    first_by-yet zone (Some Plain) = refl
    first_by-yet zone (Some (A verify within)) = refl
    first_by-yet zone (Some (B within)) =
        ap (λ b. not b && list_any (tells_first site (d ∷ done) within zone tick) taken) (since-yet zone (λ f. tells site zone f.confirmed))
        ∙ ap (λ b. not (alarm_found site done taken zone tick) && b) (first_told-yet zone within)
    first_by-yet zone (Some C) = refl

    zone_off-yet : (o : Option Point) → zone_is_off site kept (d ∷ done) o tick ≡ zone_is_off site kept done o tick
    zone_off-yet None = refl
    zone_off-yet (Some p) = in_force-yet site kept (ZoneOff p.zone) tick d done le

    missing-yet : (place : ℕ) → shows_missing site kept (d ∷ done) taken tick place ≡ shows_missing site kept done taken tick place
    missing-yet place =
        ap (λ b. missing_found taken place && not (b || zone_is_off site kept (d ∷ done) (slice_get site.points place) tick))
        (in_force-yet site kept (PointOff place) tick d done le)
        ∙ ap (λ b. missing_found taken place && not (in_force site kept (PointOff place) tick done || b)) (zone_off-yet (slice_get site.points place))

    faults_at-yet : (outside : Outside) → faults_at site kept panel (d ∷ done) taken tick outside ≡ faults_at site kept panel done taken tick outside
    faults_at-yet outside =
        ap (λ m. with_missing m outside) (points_same site panel _ _ missing-yet)

    word_at-yet : (fault : Bool) → word_at site panel (d ∷ done) taken tick fault ≡ word_at site panel done taken tick fault
    word_at-yet fault =
        let alarm = zones_same site panel _ _ (λ zone. since-yet zone (λ f. tells site zone f.confirmed)) in
        let manual = zones_same site panel _ _ (λ zone. since-yet zone (λ f. tells site zone f.manual)) in
        let released = zones_same site panel _ _ (λ zone. since-yet zone (λ f. tells site zone f.released)) in
        let first = zones_same site panel _ _ (λ zone. first_by-yet zone (rule_of (slice_get site.zones zone))) in
        same_words tick fault alarm manual released first

  pub faults-yet : (turns : List HoldTurn) → latest_tick turns ≤ d.tick
      → faults_after site kept panel (d ∷ done) turns ≡ faults_after site kept panel done turns
  faults-yet [] le = refl
  faults-yet (turn ∷ before) le = faults_at-yet (findings_taken (turn ∷ before)) turn.tick le turn.outside

  pub word-yet : (turns : List HoldTurn) → latest_tick turns ≤ d.tick
      → word_after site kept panel (d ∷ done) turns ≡ word_after site kept panel done turns
  word-yet [] le = refl
  word-yet (turn ∷ before) le =
      ap (λ f. word_at site panel (d ∷ done) (findings_taken (turn ∷ before)) turn.tick (has_fault f)) (faults-yet (turn ∷ before) le)
      ∙ word_at-yet (findings_taken (turn ∷ before)) turn.tick le (has_fault (faults_after site kept panel done (turn ∷ before)))

  news_same : {w x v y : Word} {f g h i : FaultSet} → w ≡ x → f ≡ g → v ≡ y → h ≡ i → is_news w f v h ≡ is_news x g y i
  news_same {w = w} {x = x} {v = v} {y = y} {f = f} {g = g} {h = h} {i = i} p q r s =
      ap (λ a. is_news a f v h) p ∙ ap (λ a. is_news x a v h) q ∙ ap (λ a. is_news x g a h) r ∙ ap (is_news x g y) s

  earlier : (turn : HoldTurn) (before : List HoldTurn) → AreRising (turn ∷ before) → turn.tick ≤ d.tick → latest_tick before ≤ d.tick
  earlier turn before rising le = let less = rising.0 in omega (arith, less, le)

  pub news-yet : (turns : List HoldTurn) → AreRising turns → latest_tick turns ≤ d.tick
      → last_news site kept panel (d ∷ done) turns ≡ last_news site kept panel done turns
  news-yet [] rising le = refl
  news-yet (turn ∷ before) rising le =
      let under = earlier turn before rising le in
      ap (λ n. if is_news (word_after site kept panel (d ∷ done) (turn ∷ before)) (faults_after site kept panel (d ∷ done) (turn ∷ before))
      (word_after site kept panel (d ∷ done) before) (faults_after site kept panel (d ∷ done) before) then turn.tick else n)
      (news-yet before rising.1 under)
      ∙ ap (λ b. if b then turn.tick else last_news site kept panel done before)
      (news_same (word-yet (turn ∷ before) le) (faults-yet (turn ∷ before) le) (word-yet before under) (faults-yet before under))

  pub entries-yet : (turns : List HoldTurn) → AreRising turns → latest_tick turns ≤ d.tick
      → entries_after site kept panel (d ∷ done) turns ≡ entries_after site kept panel done turns
  entries-yet [] rising le = refl
  entries-yet (turn ∷ before) rising le =
      let under = earlier turn before rising le in
      ap (λ n. n + (if is_in_fire_alarm (word_after site kept panel (d ∷ done) (turn ∷ before)) && not (is_in_fire_alarm (word_after site kept panel (d ∷ done) before)) then 1 else 0))
      (entries-yet before rising.1 under)
      ∙ ap (λ w. entries_after site kept panel done before + (if is_in_fire_alarm w && not (is_in_fire_alarm (word_after site kept panel (d ∷ done) before)) then 1 else 0)) (word-yet (turn ∷ before) le)
      ∙ ap (λ w. entries_after site kept panel done before + (if is_in_fire_alarm (word_after site kept panel done (turn ∷ before))
      && not (is_in_fire_alarm w) then 1 else 0)) (word-yet before under)

  pub buzzer-yet : (turns : List HoldTurn) → AreRising turns → latest_tick turns ≤ d.tick
      → buzzer_after site kept panel (d ∷ done) turns ≡ buzzer_after site kept panel done turns
  buzzer-yet turns rising le =
      ap (λ w. sounds w (nat_lt (muted_before panel (latest_tick turns) (d ∷ done)) (last_news site kept panel (d ∷ done) turns))) (word-yet turns le)
      ∙ ap (λ m. sounds (word_after site kept panel done turns) (nat_lt m (last_news site kept panel (d ∷ done) turns)))
      (latest-yet (mutes panel) (latest_tick turns) d done le)
      ∙ ap (λ n. sounds (word_after site kept panel done turns) (nat_lt (muted_before panel (latest_tick turns) done) n)) (news-yet turns rising le)
