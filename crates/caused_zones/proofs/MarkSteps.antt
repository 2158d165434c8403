-- What a tick makes of the mark of a point.
use Rattle.std.proofs.Common.{◌≡◌, ℕ, ◌+◌, ◌-◌, ◌≤◌, ◌<◌, ◌==◌, ◌&&◌, ◌||◌, Bool, true, false, if◌then◌else◌, List, [], ◌∷◌, length, inl, inr, refl, sym}
use Rattle.std.proofs.Common.{subst, arith}
use Rattle.std.specs.Prelude.{nat_le, nat_lt}
use Rattle.std.proofs.lemmas.Bool.{eqb-true}
use Rattle.std.proofs.lemmas.Bool.Decides.{leb_tells}
use Rattle.site_types.specs.declared.point_state.PointState.TheVariants.{Alarm}
use Rattle.site_types.specs.declared.retained.Retained.{Retained}
use Rattle.site_types.specs.declared.site.Site.{Site}
use Rattle.site_types.specs.Done.{Done}
use Rattle.site_types.specs.Profile.{round_of}
use Rattle.site_types.specs.Valid.{IsValid}
use Rattle.panel_rules.specs.Due.{SignalsAt, reached_at}
use Rattle.panel_rules.specs.Moments.{Moment, TickBlock, moments, tick_of}
use Rattle.panel_rules.specs.States.{state_of}
use Rattle.panel_rules.proofs.AnswersTell.{eq_true}
use Rattle.panel_rules.proofs.Bools.{both, parts}
use Rattle.panel_rules.proofs.Floors.{le_from, le_to, lt_from, lt_to}
use Rattle.panel_rules.proofs.ValidLayout.{laid_out}
use Rattle.run_text.proofs.TickTimes.{tick_moments, up_to_earlier}
use Rattle.caused_zones.specs.declared.point_mark.PointMark.{PointMark}
use Rattle.caused_zones.specs.Counting.{CountsAt, CountsThrough}
use Rattle.caused_zones.specs.Marks.{mark_noted}
use Rattle.caused_zones.specs.Stands.{MarkStands}
use Rattle.caused_zones.specs.Undoing.{undoes_at, was_undone}
use Rattle.caused_zones.proofs.Askings.{asked_apart, asked_back}

-- what undid something later undid what was earlier
pub undone_earlier : (test : Done → Bool) (first later : ℕ) (done : List Done) → first ≤ later → was_undone test first done ≡ false
    → was_undone test later done ≡ false
undone_earlier test first later [] l h = refl
undone_earlier test first later (d ∷ done) l h =
    let n = neither (test d && nat_le first d.tick) (was_undone test first done) h in
    both_false (test d && nat_le later d.tick) (was_undone test later done) (here (test d) n.0) (undone_earlier test first later done l n.1)
  where
    neither : (a b : Bool) → (a || b) ≡ false → (a ≡ false) × (b ≡ false)
    neither false b e = (refl, e)
    neither true b e = absurd cc

    both_false : (a b : Bool) → a ≡ false → b ≡ false → (a || b) ≡ false
    both_false false b p q = q
    both_false true b p q = absurd cc

    here : (t : Bool) → (t && nat_le first d.tick) ≡ false → (t && nat_le later d.tick) ≡ false
    here false e = refl
    here true e = not_yet (nat_le later d.tick) refl
      where
        not_yet : (b : Bool) → nat_le later d.tick ≡ b → b ≡ false
        not_yet false q = refl
        not_yet true q = absurd (let k = le_from later d.tick q in let t : nat_le first d.tick ≡ true = le_to first d.tick (omega (arith, l, k)) in
            never (nat_le first d.tick) t e)
          where
            never : (x : Bool) → x ≡ true → x ≡ false → ⊥
            never true p r = absurd cc
            never false p r = absurd cc

module _ (site : Site) (kept : Retained) (done : List Done) (tick : TickBlock) (ticks : List TickBlock) (point : ℕ) where
  abbrev old : List Moment
  old = moments ticks

  abbrev new : List Moment
  new = moments (tick ∷ ticks)

  old_tick : tick_of old ≡ length ticks
  old_tick = tick_moments ticks

  new_tick : tick_of new ≡ length ticks + 1
  new_tick = let e = tick_moments (tick ∷ ticks) in omega (arith, e)

  signals_later : (t : ℕ) → t ≤ length ticks → SignalsAt site kept done old point t → SignalsAt site kept done new point t
  signals_later t by s = record {
    alarm = subst (λ m. state_of point m ≡ Alarm) (sym (up_to_earlier tick ticks t by)) s.alarm;
    reached = subst (λ m. reached_at site point m ≡ true) (sym (up_to_earlier tick ticks t by)) s.reached;
    free = s.free;
  }

  signals_before : (t : ℕ) → t ≤ length ticks → SignalsAt site kept done new point t → SignalsAt site kept done old point t
  signals_before t by s = record {
    alarm = subst (λ m. state_of point m ≡ Alarm) (up_to_earlier tick ticks t by) s.alarm;
    reached = subst (λ m. reached_at site point m ≡ true) (up_to_earlier tick ticks t by) s.reached;
    free = s.free;
  }

  pub counts_later : (t : ℕ) → CountsAt site kept done old point t → CountsAt site kept done new point t
  counts_later t c =
      let past = c.past in
      let at = old_tick in
      let at_new = new_tick in
      let by : t ≤ length ticks = omega (arith, past, at) in
      record { begins = c.begins; past = omega (arith, by, at_new); asked = c.asked; signals = signals_later t by c.signals }

  pub counts_before : (t : ℕ) → t ≤ length ticks → CountsAt site kept done new point t → CountsAt site kept done old point t
  counts_before t by c =
      let at = old_tick in
      record { begins = c.begins; past = omega (arith, by, at); asked = c.asked; signals = signals_before t by c.signals }

  by_old : (t : ℕ) → CountsAt site kept done old point t → t ≤ length ticks
  by_old t c = let past = c.past in let at = old_tick in omega (arith, past, at)

  by_new : (t : ℕ) → CountsAt site kept done new point t → t ≤ length ticks + 1
  by_new t c = let past = c.past in let at = new_tick in omega (arith, past, at)

  through_later : (first last : ℕ) → last ≤ length ticks → CountsThrough site kept done old point first last
      → CountsThrough site kept done new point first last
  through_later first last by c = record {
    begins = counts_later first c.begins;
    rising = c.rising;
    each = λ t from to asks. counts_later t (c.each t from to asks);
  }

  through_before : (first last end : ℕ) → last ≤ length ticks → first ≤ last → last ≤ end → CountsThrough site kept done new point first end
      → CountsThrough site kept done old point first last
  through_before first last end by rising to c = record {
    begins = counts_before first (omega (arith, by, rising)) c.begins;
    rising = rising;
    each = λ t from l asks. counts_before t (omega (arith, by, l)) (c.each t from (omega (arith, l, to)) asks);
  }

  module _ (taken : List Done) (mark : PointMark) (valid : IsValid site) (stands : MarkStands site kept done taken old point mark) where
    -- no answer of the point counts in the tick
    pub mark_stays : (CountsAt site kept done new point (length ticks + 1) → ⊥) → MarkStands site kept done taken new point mark
    mark_stays none = record {
      last = λ some. counts_later mark.last (stands.last some);
      last_lasts = stands.last_lasts;
      latest = λ t c lasts. stands.latest t (counts_before t (earlier t c) c) lasts;
      run = λ some. through_later mark.first mark.last (by_old mark.last (stands.last some)) (stands.run some);
      run_lasts = stands.run_lasts;
      earliest = λ some first c lasts.
          stands.earliest some first (through_before first mark.last mark.last (by_old mark.last (stands.last some)) c.rising (omega arith) c) lasts;
    }
      where
        earlier : (t : ℕ) → CountsAt site kept done new point t → t ≤ length ticks
        earlier t c =
            elim (leb_tells t (length ticks)) [
              | inl h ↦ h.1
              | inr h ↦ (let k = h.1 in let by = by_new t c in let e : t ≡ length ticks + 1 = omega (arith, k, by) in
                  absurd (none (subst (CountsAt site kept done new point) e c)))
            ]

    module _ (now : ℕ) (next : now ≡ length ticks + 1) (counts : CountsAt site kept done new point now)
        (none_yet : (test : Done → Bool) → was_undone test now taken ≡ false) where
      abbrev round : ℕ
      round = round_of site.format

      some_round : 1 ≤ round
      some_round = let f = (laid_out site valid).format.0 in omega (arith, f)

      counts_once : (t : ℕ) → now ≤ t → t ≤ now → CountsAt site kept done new point t
      counts_once t from by = let e : now ≡ t = omega (arith, from, by) in subst (CountsAt site kept done new point) e counts

      -- the run goes on
      goes_on : round < now → mark.last ≡ now - round → MarkStands site kept done taken new point (record { last = now; first = mark.first })
      goes_on long is = record {
        last = λ some. counts;
        last_lasts = λ some. none_yet (undoes_at site point);
        latest = λ t c lasts. (let by = by_new t c in omega (arith, by, next));
        run = λ some. record {
          begins = counts_later mark.first (stands.run one).begins;
          rising = (let r = (stands.run one).rising in omega (arith, r, is));
          each = λ t from by asks. elim (leb_tells t mark.last) [
            | inl h ↦ counts_later t ((stands.run one).each t from h.1 asks)
            | inr h ↦ (let k = h.1 in
                let e : now ≡ t = asked_apart site valid point t now by (omega (arith, k, is, long)) asks counts.asked in
                subst (CountsAt site kept done new point) e counts)
          ];
        };
        run_lasts = λ some. stands.run_lasts one;
        earliest = λ some first c lasts. elim (leb_tells first mark.last) [
          | inl h ↦ (let k = h.1 in
              stands.earliest one first (through_before first mark.last now last_by k (omega (arith, is)) c) lasts)
          | inr h ↦ (let k = h.1 in let r = (stands.run one).rising in omega (arith, k, r))
        ];
      }
        where
          one : 1 ≤ mark.last
          one = omega (arith, long, is)

          last_by : mark.last ≤ length ticks
          last_by = by_old mark.last (stands.last one)

      -- it begins
      begins_now : ((round < now) → mark.last ≡ now - round → ⊥) → MarkStands site kept done taken new point (record { last = now; first = now })
      begins_now apart = record {
        last = λ some. counts;
        last_lasts = λ some. none_yet (undoes_at site point);
        latest = λ t c lasts. (let by = by_new t c in omega (arith, by, next));
        run = λ some. record { begins = counts; rising = omega arith; each = λ t from by asks. counts_once t from by };
        run_lasts = λ some. none_yet (undoes_at site point);
        earliest = λ some first c lasts. elim (leb_tells now first) [ inl h ↦ h.1 | inr h ↦ absurd (no_earlier first h.1 c lasts) ];
      }
        where
          no_earlier : (first : ℕ) → first < now → CountsThrough site kept done new point first now → was_undone (undoes_at site point) first taken ≡ false
              → ⊥
          no_earlier first less c lasts =
              elim (leb_tells (first + round) now) [
                | inl h ↦
                    (let k = h.1 in
                    let one = c.begins.begins in
                    let some = some_round in
                    let l = now - round in
                    let asks = asked_back site valid point now (omega (arith, k)) counts.asked in
                    let there = counts_before l (omega (arith, next, some)) (c.each l (omega (arith, k)) (omega arith) asks) in
                    let latest = stands.latest l there (undone_earlier (undoes_at site point) first l taken (omega (arith, k)) lasts) in
                    let held = stands.last (omega (arith, latest, k, one)) in
                    let by = by_old mark.last held in
                    let e : mark.last ≡ l = asked_apart site valid point l mark.last latest (omega (arith, by, next, k)) asks held.asked in
                    apart (omega (arith, k, one)) e)
                | inr h ↦
                    (let k = h.1 in
                    let e : now ≡ first = asked_apart site valid point first now (omega (arith, less)) k c.begins.asked counts.asked in
                    omega (arith, e, less))
              ]

      pub mark_counted : MarkStands site kept done taken new point (mark_noted round now mark)
      mark_counted = go (nat_lt round now && (mark.last == now - round)) refl
        where
          go : (b : Bool) → (nat_lt round now && (mark.last == now - round)) ≡ b
              → MarkStands site kept done taken new point (record { last = now; first = if b then mark.first else now })
          go true e = let p = parts _ _ e in goes_on (lt_from round now p.0) (eqb-true _ _ p.1)
          go false e =
              begins_now (λ long is. differ (nat_lt round now && (mark.last == now - round))
              (both _ _ (lt_to round now long) (eq_true mark.last (now - round) is)) e)
            where
              differ : (x : Bool) → x ≡ true → x ≡ false → ⊥
              differ true p q = absurd cc
              differ false p q = absurd cc
