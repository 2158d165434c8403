-- What the silence of a panel is told keeps its sounders quiet where the rules do.
use Rattle.std.proofs.Common.{◌≡◌, ◌≤◌, ◌<◌, ◌+◌, ◌==◌, ◌&&◌, ℕ, Bool, true, false, List, [], ◌∷◌, Option, Some, None}
use Rattle.std.proofs.Common.{if◌then◌else◌, inl, inr, refl, sym, ◌∙◌, ap, subst, arith}
use Rattle.std.specs.Prelude.{nat_le, nat_lt}
use Rattle.std.specs.List.{list_all}
use Rattle.std.proofs.lemmas.Bool.Decides.{leb_tells}
use Rattle.tick_units.specs.declared.task.Task.TheVariants.{Poll, Decide, Supply, Desk, Hold, Link, Effect, Drive}
use Rattle.tick_units.specs.declared.task.Task.TheVariants.{Keep}
use Rattle.site_types.specs.declared.operation.Operation.{Operation}
use Rattle.site_types.specs.declared.operation.Operation.TheVariants.{Silence, Resound}
use Rattle.site_types.specs.declared.site.Site.{Site}
use Rattle.site_types.specs.Done.{Done, silence_before, silence_then}
use Rattle.site_types.specs.Valid.{IsValid}
use Rattle.site_types.proofs.Done.{lt_false, lt_true, silence-yet}
use Rattle.sounder_control.specs.Quiet.{Call, Drove, latest_set, silenced_set, sets_since, held_at_each, keeps_quiet}
use Rattle.sounder_control.specs.Quiet.{is_quiet as is_quiet_over}
use Rattle.panel_rules.specs.Moments.{Moment, Began, Happened, Turned, Kept, tick_of, up_to}
use Rattle.panel_rules.specs.Markers.{Facts}
use Rattle.panel_rules.specs.Outputs.{released_at_drive, released_at_effect, stays_within, silence_holds, is_within}
use Rattle.panel_rules.proofs.Stays.{up_to_here}
use Rattle.panel_laws.proofs.DueOn.{silence_lt}
use Rattle.output_calls.specs.DoneCalls.{IsLatestFirst}
use Rattle.output_calls.specs.SilenceCalls.{and_silencing, zone_masks, silence_calls, QuietByCalls}
use Rattle.output_calls.proofs.DoneNow.{GoesByEarlier, and_yes, one_tick_more}
use Rattle.output_calls.proofs.ZoneMasks.{keeps_is, no_zones}

le_false : (a b : ℕ) → b < a → nat_le a b ≡ false
le_false a b less = elim (leb_tells a b) [ inl t ↦ (let by = t.1 in absurd (omega (arith, by, less))) | inr t ↦ t.0 ]

-- the latest silence goes by the operations of earlier ticks
silence_goes : (panel : ℕ)
    → GoesByEarlier (silence_before panel) (λ d before. if d.panel == panel then silence_then d.operation d.tick before else before)
silence_goes panel = record {
  at_first = λ x y. refl;
  yet = λ x d ds by. silence-yet panel x d ds by;
  past = λ x d ds less. ap (λ b. if b then silence_then d.operation d.tick (silence_before panel x ds) else silence_before panel x ds)
      (ap (λ b. (d.panel == panel) && b) (lt_true d.tick x less) ∙ and_yes (d.panel == panel));
}

none_at_start : (panel : ℕ) (ds : List Done) → silence_before panel 0 ds ≡ None
none_at_start panel [] = refl
none_at_start panel (d ∷ ds) = silence-yet panel 0 d ds (omega arith) ∙ none_at_start panel ds

module _ (site : Site) (valid : IsValid site) (facts : ℕ → List Moment → Facts) (panel : ℕ) where
  -- the zones that were released at the latest turn of Drive, as masks
  abbrev masks_at : List Moment → List ℕ
  masks_at m = zone_masks site (released_at_drive site facts panel m)

  -- a silence done in a tick took the zones of that tick, and held at each turn since where by the rules it
  -- stays within them
  record HasHeld (m : List Moment) (calls : List Call) (tick : ℕ) : Type 0 where
    took : silenced_set calls ≡ Some (masks_at (up_to tick m))
    held :
        list_all (keeps_quiet (masks_at (up_to tick m))) (sets_since calls)
        ≡ stays_within site facts panel tick (released_at_drive site facts panel (up_to tick m)) m

  abbrev Holds : List Moment → List Call → Option ℕ → Type 0
  Holds m calls None = silenced_set calls ≡ None
  Holds m calls (Some tick) = HasHeld m calls tick

  -- one moment later
  moved : (moment : Moment) (before : List Moment) (calls more : List Call) (latest : Option ℕ)
      → ((tick : ℕ) → latest ≡ Some tick → tick < tick_of (moment ∷ before)) → silenced_set more ≡ silenced_set calls
      → ((tick : ℕ) → tick < tick_of (moment ∷ before) → (zones : ℕ → Bool)
      → list_all (keeps_quiet (zone_masks site zones)) (sets_since calls) ≡ stays_within site facts panel tick zones before
      → list_all (keeps_quiet (zone_masks site zones)) (sets_since more) ≡ stays_within site facts panel tick zones (moment ∷ before))
      → Holds before calls latest → Holds (moment ∷ before) more latest
  moved moment before calls more None early same step h = same ∙ h
  moved moment before calls more (Some tick) early same step h =
      let past : up_to tick (moment ∷ before) ≡ up_to tick before =
      ap (λ b. if b then moment ∷ before else up_to tick before) (le_false (tick_of (moment ∷ before)) tick (early tick refl)) in
      record {
        took = same ∙ h.took ∙ sym (ap (λ (m : List Moment). Some (masks_at m)) past);
        held =
            subst (λ (m : List Moment). list_all (keeps_quiet (masks_at m)) (sets_since more)
            ≡ stays_within site facts panel tick (released_at_drive site facts panel m) (moment ∷ before)) (sym past)
            (step tick (early tick refl) (released_at_drive site facts panel (up_to tick before)) h.held);
      }

  -- no turn is later than its tick
  none_since : (since : ℕ) (zones : ℕ → Bool) (m : List Moment) → tick_of m ≤ since → stays_within site facts panel since zones m ≡ true
  none_since since zones [] by = refl
  none_since since zones (Began ∷ before) by = none_since since zones before (omega (arith, by))
  none_since since zones (Happened event ∷ before) by = none_since since zones before by
  none_since since zones (Turned other Drive ∷ before) by =
      ap (λ b. if b then is_within site (released_at_effect site facts panel before) zones && stays_within site facts panel since zones before
      else stays_within site facts panel since zones before)
      (ap (λ b. (other == panel) && b) (lt_false since (tick_of before) by) ∙ no_and (other == panel))
      ∙ none_since since zones before by
    where
      no_and : (b : Bool) → (b && false) ≡ false
      no_and true = refl
      no_and false = refl
  none_since since zones (Turned other Poll ∷ before) by = none_since since zones before by
  none_since since zones (Turned other Decide ∷ before) by = none_since since zones before by
  none_since since zones (Turned other Supply ∷ before) by = none_since since zones before by
  none_since since zones (Turned other Desk ∷ before) by = none_since since zones before by
  none_since since zones (Turned other Hold ∷ before) by = none_since since zones before by
  none_since since zones (Turned other Link ∷ before) by = none_since since zones before by
  none_since since zones (Turned other Effect ∷ before) by = none_since since zones before by
  none_since since zones (Turned other Keep ∷ before) by = none_since since zones before by
  none_since since zones (Kept failed ∷ before) by = none_since since zones before by

  -- calls agree with the latest silence that was done before a tick
  record Agree (m : List Moment) (zones : List ℕ) (calls : List Call) (latest : Option ℕ) : Type 0 where
    holds : Holds m calls latest
    set : latest_set calls ≡ zones

  -- an operation done in the tick that ends as the next one begins
  one_done : (before : List Moment) (d : Done) (calls : List Call) (latest : Option ℕ) → d.tick ≡ tick_of before
      → Agree (Began ∷ before) (masks_at before) calls latest
      → Agree (Began ∷ before) (masks_at before) (if d.panel == panel then and_silencing d.operation calls else calls)
      (if d.panel == panel then silence_then d.operation d.tick latest else latest)
  one_done before d calls latest is h = go (d.panel == panel)
    where
      ends : up_to d.tick (Began ∷ before) ≡ before
      ends =
          ap (λ tick. up_to tick (Began ∷ before)) is
          ∙ ap (λ b. if b then Began ∷ before else up_to (tick_of before) before) (le_false (tick_of before + 1) (tick_of before) (omega arith))
          ∙ up_to_here before

      one : (operation : Operation)
          → Agree (Began ∷ before) (masks_at before) (and_silencing operation calls) (silence_then operation d.tick latest)
      one Silence =
          record {
            holds =
                record {
                  took = ap (λ (zones : List ℕ). Some zones) h.set ∙ sym (ap (λ (m : List Moment). Some (masks_at m)) ends);
                  held =
                      sym (none_since d.tick (released_at_drive site facts panel (up_to d.tick (Began ∷ before))) before (omega (arith, is)));
                };
            set = h.set;
          }
      one Resound = record { holds = refl; set = h.set }
      one other = h

      go : (b : Bool) → Agree (Began ∷ before) (masks_at before) (if b then and_silencing d.operation calls else calls)
          (if b then silence_then d.operation d.tick latest else latest)
      go true = one d.operation
      go false = h

  -- a turn of the panel's Drive, and one of another panel's
  at_turn : (other : ℕ) (before : List Moment) (calls : List Call) (latest : Option ℕ)
      → ((tick : ℕ) → latest ≡ Some tick → tick < tick_of before) → Agree before (masks_at before) calls latest
      → Agree (Turned other Drive ∷ before) (masks_at (Turned other Drive ∷ before))
      (if other == panel then Drove (zone_masks site (released_at_effect site facts panel before)) ∷ calls else calls) latest
  at_turn other before calls latest early h = go (other == panel) refl
    where
      released : (b : Bool) → (other == panel) ≡ b
          → released_at_drive site facts panel (Turned other Drive ∷ before)
          ≡ (if b then released_at_effect site facts panel before else released_at_drive site facts panel before)
      released b e = ap (λ c. if c then released_at_effect site facts panel before else released_at_drive site facts panel before) e

      own : (tick : ℕ) → tick < tick_of before → (zones : ℕ → Bool) → (other == panel) ≡ true
          → list_all (keeps_quiet (zone_masks site zones)) (sets_since calls) ≡ stays_within site facts panel tick zones before
          → list_all (keeps_quiet (zone_masks site zones)) (zone_masks site (released_at_effect site facts panel before) ∷ sets_since calls)
          ≡ stays_within site facts panel tick zones (Turned other Drive ∷ before)
      own tick less zones e same =
          ap (λ b. b && list_all (keeps_quiet (zone_masks site zones)) (sets_since calls))
          (keeps_is site valid zones (released_at_effect site facts panel before))
          ∙ ap (λ b. is_within site (released_at_effect site facts panel before) zones && b) same
          ∙ sym
          (ap (λ b. if b && nat_lt tick (tick_of before)
          then is_within site (released_at_effect site facts panel before) zones && stays_within site facts panel tick zones before
          else stays_within site facts panel tick zones before) e
          ∙ ap (λ b. if b then is_within site (released_at_effect site facts panel before) zones && stays_within site facts panel tick zones before
          else stays_within site facts panel tick zones before) (lt_true tick (tick_of before) less))

      go : (b : Bool) → (other == panel) ≡ b
          → Agree (Turned other Drive ∷ before) (masks_at (Turned other Drive ∷ before)) (if b then Drove (zone_masks site (released_at_effect site facts panel before)) ∷ calls else calls) latest
      go true e =
          record {
            holds =
                moved (Turned other Drive) before calls (Drove (zone_masks site (released_at_effect site facts panel before)) ∷ calls) latest early
                refl (λ tick less zones same. own tick less zones e same) h.holds;
            set = sym (ap (zone_masks site) (released true e));
          }
      go false e =
          record {
            holds =
                moved (Turned other Drive) before calls calls latest early refl
                (λ tick less zones same. same
                ∙ sym (ap (λ b. if b && nat_lt tick (tick_of before)
                then is_within site (released_at_effect site facts panel before) zones && stays_within site facts panel tick zones before
                else stays_within site facts panel tick zones before) e)) h.holds;
            set = h.set ∙ sym (ap (zone_masks site) (released false e));
          }

  -- at any other moment of the same tick
  stays : (moment : Moment) (before : List Moment) (calls : List Call) (latest : Option ℕ)
      → ((tick : ℕ) → latest ≡ Some tick → tick < tick_of (moment ∷ before))
      → ((tick : ℕ) (zones : ℕ → Bool) → stays_within site facts panel tick zones before ≡ stays_within site facts panel tick zones (moment ∷ before))
      → masks_at before ≡ masks_at (moment ∷ before) → Agree before (masks_at before) calls latest
      → Agree (moment ∷ before) (masks_at (moment ∷ before)) calls latest
  stays moment before calls latest early same masks h =
      record {
        holds = moved moment before calls calls latest early refl (λ tick less zones held. held ∙ same tick zones) h.holds;
        set = h.set ∙ masks;
      }

  module _ (done : List Done) (falls : IsLatestFirst done) where
    at_moment : (m : List Moment)
        → Agree m (masks_at m) (silence_calls site facts done panel m) (silence_before panel (tick_of m) done)
    at_moment [] =
        record { holds = subst (Holds [] []) (sym (none_at_start panel done)) refl; set = no_zones site }
    at_moment (Began ∷ before) =
        one_tick_more and_silencing panel (tick_of before) (silence_before panel)
        (λ d latest. if d.panel == panel then silence_then d.operation d.tick latest else latest) (silence_goes panel)
        (Agree (Began ∷ before) (masks_at before)) (λ d calls latest is h. one_done before d calls latest is h) done
        (silence_calls site facts done panel before) falls
        (stays Began before (silence_calls site facts done panel before) (silence_before panel (tick_of before) done)
        (λ tick e. (let less = silence_lt panel (tick_of before) done tick e in omega (arith, less))) (λ tick zones. refl) refl (at_moment before))
    at_moment (Happened event ∷ before) =
        stays (Happened event) before (silence_calls site facts done panel before) (silence_before panel (tick_of before) done)
        (silence_lt panel (tick_of before) done) (λ tick zones. refl) refl (at_moment before)
    at_moment (Turned other Drive ∷ before) =
        at_turn other before (silence_calls site facts done panel before) (silence_before panel (tick_of before) done)
        (silence_lt panel (tick_of before) done) (at_moment before)
    at_moment (Turned other Poll ∷ before) =
        stays (Turned other Poll) before (silence_calls site facts done panel before) (silence_before panel (tick_of before) done)
        (silence_lt panel (tick_of before) done) (λ tick zones. refl) refl (at_moment before)
    at_moment (Turned other Decide ∷ before) =
        stays (Turned other Decide) before (silence_calls site facts done panel before) (silence_before panel (tick_of before) done)
        (silence_lt panel (tick_of before) done) (λ tick zones. refl) refl (at_moment before)
    at_moment (Turned other Supply ∷ before) =
        stays (Turned other Supply) before (silence_calls site facts done panel before) (silence_before panel (tick_of before) done)
        (silence_lt panel (tick_of before) done) (λ tick zones. refl) refl (at_moment before)
    at_moment (Turned other Desk ∷ before) =
        stays (Turned other Desk) before (silence_calls site facts done panel before) (silence_before panel (tick_of before) done)
        (silence_lt panel (tick_of before) done) (λ tick zones. refl) refl (at_moment before)
    at_moment (Turned other Hold ∷ before) =
        stays (Turned other Hold) before (silence_calls site facts done panel before) (silence_before panel (tick_of before) done)
        (silence_lt panel (tick_of before) done) (λ tick zones. refl) refl (at_moment before)
    at_moment (Turned other Link ∷ before) =
        stays (Turned other Link) before (silence_calls site facts done panel before) (silence_before panel (tick_of before) done)
        (silence_lt panel (tick_of before) done) (λ tick zones. refl) refl (at_moment before)
    at_moment (Turned other Effect ∷ before) =
        stays (Turned other Effect) before (silence_calls site facts done panel before) (silence_before panel (tick_of before) done)
        (silence_lt panel (tick_of before) done) (λ tick zones. refl) refl (at_moment before)
    at_moment (Turned other Keep ∷ before) =
        stays (Turned other Keep) before (silence_calls site facts done panel before) (silence_before panel (tick_of before) done)
        (silence_lt panel (tick_of before) done) (λ tick zones. refl) refl (at_moment before)
    at_moment (Kept failed ∷ before) =
        stays (Kept failed) before (silence_calls site facts done panel before) (silence_before panel (tick_of before) done)
        (silence_lt panel (tick_of before) done) (λ tick zones. refl) refl (at_moment before)

  quiet_by : (m : List Moment) (calls : List Call) (latest : Option ℕ) → Holds m calls latest
      → is_quiet_over calls ≡ silence_holds site facts panel m latest
  quiet_by m calls None h = ap (λ (taken : Option (List ℕ)). held_at_each taken (sets_since calls)) h
  quiet_by m calls (Some tick) h = ap (λ (taken : Option (List ℕ)). held_at_each taken (sets_since calls)) h.took ∙ h.held

pub quiet : QuietByCalls
quiet site facts kept done panel m valid falls =
    quiet_by site valid facts panel m (silence_calls site facts done panel m) (silence_before panel (tick_of m) done)
    (at_moment site valid facts panel done falls m).holds
