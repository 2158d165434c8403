-- Where nothing more is told, the same is shown again.
use Rattle.std.proofs.Common.{◌≡◌, ℕ, zero, suc, ◌+◌, ◌-◌, ◌<◌, ◌≤◌, ◌^◌, min, Bool, true, false, not, List, [], ◌∷◌, ◌&&◌, ◌||◌, nat_eq, nat_lt, if◌then◌else◌, refl, sym, ◌∙◌, ap, subst, arith}
use Rattle.std.specs.Cmp.Lexicographic.{pointwise}
use Rattle.std.proofs.lemmas.Bool.{lt-ltb}
use Rattle.std.proofs.lemmas.Bool.Decides.{Decides-eqb}
use Rattle.std.proofs.lemmas.Slice.Eq.{slice_eq-Decides}
use Rattle.tick_units.specs.declared.tick.Tick.{Tick}
use Rattle.site_types.specs.declared.site.Site.{Site}
use Rattle.site_types.specs.declared.point_set.PointSet.{PointSet}
use Rattle.site_types.specs.declared.retained.Retained.{Retained}
use Rattle.site_types.specs.declared.buzzer.Buzzer.{Buzzer}
use Rattle.site_types.specs.declared.fault_set.FaultSet.{FaultSet}
use Rattle.site_types.specs.declared.word.Word.{Word}
use Rattle.site_types.specs.Bits.{any_below, has_bit}
use Rattle.site_types.specs.Done.{Done, AreBy}
use Rattle.coincidence_rules.specs.declared.finding.Finding.{Finding}
use Rattle.panel_conditions.specs.declared.hold.Hold.{Hold}
use Rattle.tick_units.specs.declared.last_done.LastDone.{LastDone}
use Rattle.panel_conditions.specs.declared.outside.Outside.{Outside}
use Rattle.panel_conditions.specs.declared.point_switch.PointSwitch.{PointSwitch}
use Rattle.panel_conditions.specs.declared.shown.Shown.{Shown}
use Rattle.panel_conditions.specs.declared.zones.Zones.{Zones}
use Rattle.panel_conditions.specs.declared.sign.Sign.TheVariants.{Alarm, Manual, Released, First}
use Rattle.panel_conditions.specs.Parts.{later_tick, points_at, points_shown, signs_at}
use Rattle.tick_units.specs.LastTicks.{last_at}
use Rattle.panel_conditions.specs.PointSets.{set_without}
use Rattle.panel_conditions.specs.Shown.{has_more, has_more_points, is_in_fire_alarm, is_news, on_lines, sounds}
use Rattle.panel_conditions.specs.Stands.{HoldsFor, IsUnchanged, ShownStays, TakesFindings, Watches, WatchesZones, entries_then, faults_now, newly_then, nothing_shown, shown_at, shown_now, shown_then}
use Rattle.panel_conditions.specs.Turns.{HoldTurn, latest_tick}
use Rattle.panel_conditions.specs.Words.{faults_at, with_missing, word_with, has_fault, word_after, word_at}
use Rattle.panel_conditions.proofs.Drawn.{later_left, later_right}
use Rattle.panel_conditions.proofs.Masked.{zones_shown}
use Rattle.panel_conditions.proofs.Turned.{shown_same}
use Rattle.panel_conditions.proofs.Watched.{missing_shown}

pub same_sets : (a b : PointSet) (r : Bool) → r ≡ pointwise (pointwise nat_eq) a.loops b.loops → r ≡ true → a ≡ b
same_sets a b r is holds =
    ap (λ (l : List (List ℕ)). record { loops = l })
    ((slice_eq-Decides (λ xs ys. slice_eq-Decides Decides-eqb xs ys (pointwise nat_eq xs ys) refl) a.loops b.loops r is).0 holds)

pub sets_same : (a b : PointSet) → a ≡ b → pointwise (pointwise nat_eq) a.loops b.loops ≡ true
sets_same a b e =
    (slice_eq-Decides (λ xs ys. slice_eq-Decides Decides-eqb xs ys (pointwise nat_eq xs ys) refl) a.loops b.loops _ refl).1 (ap (λ s. s.loops) e)

-- ---- nothing has more than itself

and_not : (b : Bool) → (b && not b) ≡ false
and_not true = refl
and_not false = refl

neither : {a b : Bool} → a ≡ false → b ≡ false → (a || b) ≡ false
neither p q = rw (p, q) refl

none_below : (n : ℕ) (test : ℕ → Bool) → ((k : ℕ) → test k ≡ false) → any_below n test ≡ false
unfolding any_below
none_below zero test none = refl
none_below (suc n) test none = neither (none_below n test none) (none n)

no_more : (bits mask : ℕ) → has_more bits mask mask ≡ false
no_more bits mask = none_below bits (λ k. has_bit mask k && not (has_bit mask k)) (λ k. and_not (has_bit mask k))

no_more_points : (set : PointSet) → has_more_points set set ≡ false
no_more_points set = neither (line 0) (neither (line 1) (neither (line 2) (line 3)))
  where
    line : (n : ℕ) → on_lines set set n ≡ false
    line n = neither (no_more 128 _) (no_more 128 _)

no_news : (word : Word) (tick : ℕ) (faults : FaultSet) → is_news (record word { stamp = record { 0 = tick } }) faults word faults ≡ false
no_news word tick f =
    neither (no_more 32 word.alarm)
    (neither (no_more 32 word.first)
    (neither (no_more_points f.missing)
    (neither (no_more 8 f.broken)
    (neither (no_more 8 f.shorted)
    (neither (no_more 8 f.supply) (neither (no_more 8 f.silent) (neither (no_more 8 f.links) (no_more 32 f.unconfirmed))))))))

same_record : (word : Word) (faults : FaultSet) (n m : Tick) (e g : ℕ) (b c : Buzzer) → n ≡ m → e ≡ g → b ≡ c →
    ◌≡◌ {A = Shown} (record { word = word; faults = faults; newly = n; entries = e; buzzer = b })
    (record { word = word; faults = faults; newly = m; entries = g; buzzer = c })
same_record word faults n m e g b c p q r = cc

-- the same word and faults again, at another tick
shown_again : (shown : Shown) (tick : ℕ) (muted : Tick) → shown.buzzer ≡ sounds shown.word (nat_lt muted.0 shown.newly.0) →
    shown_then shown (record shown.word { stamp = record { 0 = tick } }) shown.faults muted ≡ record shown {
      word =
          record shown.word { stamp = record { 0 = tick } };
    }
shown_again shown tick muted buzzer =
    let word = record shown.word { stamp = record { 0 = tick } } in
    let newly : newly_then shown word shown.faults ≡ shown.newly =
    ap (λ b. if b then word.stamp else shown.newly) (no_news shown.word tick shown.faults) in
    let entries : entries_then shown.entries word shown.word ≡ shown.entries =
    ap (λ b. if b then min (shown.entries + 1) (2 ^ 64 - 1) else shown.entries) (and_not (is_in_fire_alarm shown.word)) in
    same_record word shown.faults _ shown.newly _ shown.entries _ shown.buzzer newly entries
    (ap (λ (n : Tick). sounds word (nat_lt muted.0 n.0)) newly ∙ sym buzzer)

-- ---- switches behind the latest operation

switched : (switch : PointSwitch) (moved x : ℕ) → switch.since.0 ≤ moved → moved < x → points_at x switch ≡ switch.after
switched switch moved x by later = ap (λ b. if b then switch.after else switch.before) (lt-ltb switch.since.0 x (omega (arith, by, later)))

last_is : (last : LastDone) (moved x : ℕ) → last.tick.0 ≤ moved → moved < x → last_at x last ≡ last.tick.0
last_is last moved x by later = ap (λ b. if b then last.tick.0 else last.earlier.0) (lt-ltb last.tick.0 x (omega (arith, by, later)))

-- ---- what follows at a tick

module _ {site : Site} {kept : Retained} {panel : ℕ} {done : List Done} {taken : List Finding} {hold : Hold} (h :
    Watches site kept panel done taken hold) where
  points_are : (tick : ℕ) → AreBy hold.zones.moved.0 done → hold.zones.moved.0 < tick →
      points_shown tick hold.points ≡ set_without (set_without hold.points.missing hold.points.off.after) hold.points.zone_off.after
  points_are tick by later =
      ap (λ s. set_without (set_without hold.points.missing s) (points_at tick hold.points.zone_off))
      (switched hold.points.off hold.zones.moved.0 tick (h.points.off.by hold.zones.moved.0 by) later)
      ∙ ap (set_without (set_without hold.points.missing hold.points.off.after))
      (switched hold.points.zone_off hold.zones.moved.0 tick (h.points.zone_off.by hold.zones.moved.0 by) later)

  muted_is : (tick : ℕ) → AreBy hold.zones.moved.0 done → hold.zones.moved.0 < tick → last_at tick hold.muted ≡ hold.muted.tick.0
  muted_is tick by later = last_is hold.muted hold.zones.moved.0 tick (h.muted.by hold.zones.moved.0 by) later

  -- it is what the definitions tell
  pub shown_is : (tick : ℕ) (outside : Outside) → hold.zones.signs ≡ signs_at tick hold.zones.watches.items → AreBy tick done →
      shown_now tick outside hold ≡ shown_at site kept panel done taken tick outside hold.shown
  shown_is tick outside signs since =
      let shown = zones_shown site panel done taken hold.zones.watches.items tick in
      let faults : faults_now tick outside hold ≡ faults_at site kept panel done taken tick outside =
      ap (λ m. with_missing m outside)
      (missing_shown site kept panel done taken hold.points tick since h.points)
      in
      let fault = has_fault (faults_now tick outside hold) in
      let word : word_with tick fault hold.zones.signs ≡ word_at site panel done taken tick fault =
      rw (
        ap (λ s. s.alarm) signs ∙ shown Alarm since h.zones,
        ap (λ s. s.manual) signs ∙ shown Manual since h.zones,
        ap (λ s. s.released) signs ∙ shown Released since h.zones,
        ap (λ s. s.first) signs ∙ shown First since h.zones,
      ) refl
      in
      shown_same hold.shown (word_with tick fault hold.zones.signs) _ (faults_now tick outside hold) _ (record { 0 = last_at tick hold.muted }) _
      (word ∙ ap (λ f. word_at site panel done taken tick (has_fault f)) faults) faults (sym (h.muted.at tick (h.muted.by tick since)))

  -- where nothing changed it is what was shown
  pub unchanged_is : (tick : ℕ) (outside : Outside) → IsUnchanged outside hold → ShownStays done hold → hold.shown.word.stamp.0 ≤ tick →
      record hold.shown { word = record hold.shown.word { stamp = record { 0 = tick } } } ≡ shown_now tick outside hold
  unchanged_is tick outside same stays since =
      let was = hold.shown in
      let moved = same.moved in
      let later : hold.zones.moved.0 < tick = omega (arith, moved, since) in
      let missing : points_shown tick hold.points ≡ was.faults.missing =
      points_are tick stays.by later ∙ stays.missing same.missing same.moved
      in
      let faults : faults_now tick outside hold ≡ was.faults =
      ap (λ m. with_missing m outside) missing ∙ ap (with_missing was.faults.missing) same.outside_is
      in
      let word : word_with tick (has_fault (faults_now tick outside hold)) hold.zones.signs ≡ record was.word { stamp = record { 0 = tick } } =
      ap (λ f. word_with tick (has_fault f) hold.zones.signs) faults
      ∙ ap (λ b. word_with tick b hold.zones.signs) (sym stays.fault)
      ∙ sym (ap (λ (w : Word). record w { stamp = record { 0 = tick } }) same.signs)
      in
      let muted = muted_is tick stays.by later in
      sym (
      ap (λ f. shown_then was (word_with tick (has_fault (faults_now tick outside hold)) hold.zones.signs) f (record { 0 = last_at tick hold.muted }))
      faults
      ∙ ap (λ w. shown_then was w was.faults (record { 0 = last_at tick hold.muted })) word
      ∙ shown_again was tick (record { 0 = last_at tick hold.muted })
      (stays.buzzer same.moved ∙ ap (λ n. sounds was.word (nat_lt n was.newly.0)) (sym muted))
      )

  -- and stays so
  pub stays_now : (tick : ℕ) (outside : Outside) (after : Hold) → AreBy hold.zones.moved.0 done → after.shown ≡ shown_now tick outside hold
      → after.zones ≡ hold.zones → after.points ≡ record hold.points { changed = false } → after.muted ≡ hold.muted → ShownStays done after
  stays_now tick outside after by shown zones points muted =
      let moved : after.zones.moved.0 ≡ hold.zones.moved.0 = ap (λ z. z.moved.0) zones in
      let stamp : after.shown.word.stamp.0 ≡ tick = ap (λ s. s.word.stamp.0) shown in
      record {
        by = subst (λ n. AreBy n done) (sym moved) by;
        fault = ap (λ s. s.word.fault) shown ∙ sym (ap (λ s. has_fault s.faults) shown);
        missing = λ same lt.
            ap (λ p. set_without (set_without p.missing p.off.after) p.zone_off.after) points
            ∙ sym (points_are tick by (omega (arith, lt, moved, stamp)))
            ∙ sym (ap (λ s. s.faults.missing) shown);
        buzzer = λ lt.
            ap (λ s. s.buzzer) shown
            ∙ ap (λ n. sounds (shown_now tick outside hold).word (nat_lt n (shown_now tick outside hold).newly.0))
            (muted_is tick by (omega (arith, lt, moved, stamp)))
            ∙ sym (ap (λ s. sounds s.word (nat_lt hold.muted.tick.0 s.newly.0)) shown)
            ∙ sym (ap (λ m. sounds after.shown.word (nat_lt m.tick.0 after.shown.newly.0)) muted);
      }

-- ---- at first, and after findings and operations

pub stays_first : (hold : Hold) → hold.shown ≡ nothing_shown → ShownStays [] hold
stays_first hold shown =
    let stamp : hold.shown.word.stamp.0 ≡ 0 = ap (λ s. s.word.stamp.0) shown in
    record {
      by = tt;
      fault = ap (λ s. s.word.fault) shown ∙ sym (ap (λ s. has_fault s.faults) shown);
      missing = λ same lt. absurd (omega (arith, lt, stamp));
      buzzer = λ lt. absurd (omega (arith, lt, stamp));
    }

pub stays_taken : (done : List Done) (before after : Hold) → TakesFindings before after → ShownStays done before → ShownStays done after
stays_taken done before after takes h =
    let moved : after.zones.moved.0 ≡ before.zones.moved.0 = ap (λ t. t.0) takes.moved in
    let stamp : after.shown.word.stamp.0 ≡ before.shown.word.stamp.0 = ap (λ s. s.word.stamp.0) takes.shown in
    record {
      by = subst (λ n. AreBy n done) (sym moved) h.by;
      fault = ap (λ s. s.word.fault) takes.shown ∙ h.fault ∙ sym (ap (λ s. has_fault s.faults) takes.shown);
      missing = λ same lt.
          ap (λ m. set_without (set_without m after.points.off.after) after.points.zone_off.after) (takes.missing same).1
          ∙ ap (λ o. set_without (set_without before.points.missing o.after) after.points.zone_off.after) takes.off
          ∙ ap (λ o. set_without (set_without before.points.missing before.points.off.after) o.after) takes.zone_off
          ∙ h.missing (takes.missing same).0 (omega (arith, lt, moved, stamp))
          ∙ sym (ap (λ s. s.faults.missing) takes.shown);
      buzzer = λ lt.
          ap (λ s. s.buzzer) takes.shown
          ∙ h.buzzer (omega (arith, lt, moved, stamp))
          ∙ sym (ap (λ s. sounds s.word (nat_lt before.muted.tick.0 s.newly.0)) takes.shown)
          ∙ sym (ap (λ m. sounds after.shown.word (nat_lt m.tick.0 after.shown.newly.0)) takes.muted);
    }

by_later : (done : List Done) (m n : ℕ) → m ≤ n → AreBy m done → AreBy n done
by_later [] m n le by = tt
by_later (d ∷ ds) m n le by = (omega (arith, le, by.0), by_later ds m n le by.1)

pub stays_done : (done : List Done) (d : Done) (at : Tick) (was after : Hold) → d.tick ≡ at.0 → after.zones.moved ≡ later_tick was.zones.moved at
    → after.shown ≡ was.shown → was.shown.word.stamp.0 ≤ at.0 →
    ShownStays done was → ShownStays (d ∷ done) after
stays_done done d at was after tick moved shown turned h =
    let left = later_left was.zones.moved at in
    let right = later_right was.zones.moved at in
    let now : after.zones.moved.0 ≡ (later_tick was.zones.moved at).0 = ap (λ t. t.0) moved in
    let stamp : after.shown.word.stamp.0 ≡ was.shown.word.stamp.0 = ap (λ s. s.word.stamp.0) shown in
    record {
      by = (omega (arith, tick, right, now), by_later done was.zones.moved.0 after.zones.moved.0 (omega (arith, left, now)) h.by);
      fault = ap (λ s. s.word.fault) shown ∙ h.fault ∙ sym (ap (λ s. has_fault s.faults) shown);
      missing = λ same lt. absurd (omega (arith, lt, right, now, stamp, turned));
      buzzer = λ lt. absurd (omega (arith, lt, right, now, stamp, turned));
    }

-- it was shown in the latest turn
stamp_after : (site : Site) (kept : Retained) (panel : ℕ) (done : List Done) (turns : List HoldTurn)
    → (word_after site kept panel done turns).stamp.0 ≡ latest_tick turns
stamp_after site kept panel done [] = refl
stamp_after site kept panel done (turn ∷ before) = refl

pub shown_in : (site : Site) (kept : Retained) (panel : ℕ) (done : List Done) (turns : List HoldTurn) (hold : Hold)
    → HoldsFor site kept panel done turns hold → hold.shown.word.stamp.0 ≡ latest_tick turns
shown_in site kept panel done turns hold h = ap (λ w. w.stamp.0) h.shows.word ∙ stamp_after site kept panel done turns

-- what is kept, with zones that were drawn anew
pub record IsDrawn (site : Site) (kept : Retained) (panel : ℕ) (done : List Done) (taken : List Finding) (was : Hold) (zones : Zones) : Type 0 where
  pub watches : Watches site kept panel done taken (record was { zones = zones })
  pub stays : ShownStays done (record was { zones = zones })

pub drawn : {site : Site} {kept : Retained} {panel : ℕ} {done : List Done} {taken : List Finding} (was : Hold) (zones : Zones)
    → Watches site kept panel done taken was → ShownStays done was → zones.watches.items ≡ was.zones.watches.items → zones.moved ≡ was.zones.moved
    → IsDrawn site kept panel done taken was zones
drawn {site} {panel = panel} {done = done} {taken = taken} was zones h stays watches moved = record {
  watches = record { zones = subst (WatchesZones site panel done taken) (sym watches) h.zones; points = h.points; muted = h.muted };
  stays =
      stays_taken done was (record was { zones = zones }) (record { shown = refl; missing = λ same. (same, refl); moved = moved; off = refl; zone_off = refl; muted = refl })
      stays;
}
