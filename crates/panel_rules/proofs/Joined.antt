-- A zone that is due at a panel is in the word that the panel keeps, and what is in a word kept is caused.
use Rattle.std.proofs.Common.{◌≡◌, ℕ, suc, ◌+◌, ◌-◌, ◌*◌, ◌≤◌, ◌<◌, List, ◌∷◌, Bool, true, false, refl, sym, ◌∙◌, ap, subst, arith}
use Rattle.tick_units.specs.declared.task.Task.TheVariants.{Hold, Link}
use Rattle.site_types.specs.declared.site.Site.{Site}
use Rattle.site_types.specs.declared.retained.Retained.{Retained}
use Rattle.site_types.specs.Done.{Done}
use Rattle.site_types.specs.Profile.{round_of}
use Rattle.panel_rules.specs.Moments.{Moment, Turned, tick_of, has_turned, IsPanel, IsRun, IsPast, present, up_to, latest_turn}
use Rattle.panel_rules.specs.States.{is_up}
use Rattle.panel_rules.specs.Ring.{links_between, link_on, IsWayUp, AreJoined, the_same, upward as way_up, downward as way_down}
use Rattle.panel_rules.specs.Kept.{kept_at, heard}
use Rattle.panel_rules.specs.Zones.{panel_of_zone}
use Rattle.panel_rules.specs.Due.{IsDueAfter, own, by_way}
use Rattle.panel_rules.specs.Caused.{IsCausedAt, IsCausedByHand, IsCausedOut}
use Rattle.panel_rules.specs.Laws.{IsAfterTick, DueZoneIsKept, DueReleaseIsKept, DueHandIsKept, KeptZoneIsCaused, KeptReleaseIsCaused, KeptHandIsCaused}
use Rattle.panel_rules.proofs.Turns.{turn_lag, one_back, run_tail, owed_turn}
use Rattle.panel_rules.proofs.AnswersTell.{eq_true, turn_in}
use Rattle.panel_rules.proofs.KeptWords.{IsMade, nothing, in_turn, kept_is, heard_rises, own_heard}
use Rattle.panel_rules.proofs.Ways.{up_from, down_from, links_few, up_member, up_begins, up_ends, up_step, down_member, down_begins, down_ends, down_step, down_links}
use Rattle.panel_rules.proofs.Heard.{upward, downward, heard_by_way}
use Rattle.panel_rules.proofs.ValidLayout.{laid_out}
use Rattle.panel_rules.proofs.InAlarm.{signal_holds, hand_holds, out_holds}
use Rattle.panel_rules.proofs.Causes.{alarm_caused, hand_caused, released_caused}

-- a turn of Link and its tick
pub link_tick : (panel : ℕ) (before : List Moment) → latest_turn panel Link (Turned panel Link ∷ before) ≡ tick_of before
link_tick panel before = rw (eq_true panel panel refl) refl

module _ (panels : ℕ) (moments past : List Moment) (run : IsRun panels moments) (is_past : IsPast past moments) (few : panels ≤ 8) (from to : ℕ) (f :
    IsPanel panels from) (t : IsPanel panels to) where
  upward_heard : (first last : ℕ) → latest_turn to Link past ≤ last → first + 14 ≤ latest_turn to Link past + 1
      → IsWayUp panels moments from to first last → latest_turn to Link past ≤ heard panels to from past + 15
  upward_heard first last l recent up =
      let h = links_between panels from to in
      let short = links_few panels from to f t in
      let ends = up_ends panels from to f t in
      let claim =
      heard_by_way panels from few moments run (up_from panels from) (link_on panels from) h (up_begins panels from f)
      (λ j less. upward (up_step panels from j f (omega (arith, less, short))) refl)
      (λ j less. up_member panels from j f (omega (arith, less, short))) past is_past in
      let at : ((i y : ℕ) → i < h → 1 ≤ y → y ≤ latest_turn to Link past → latest_turn to Link past < y + 2 * h
      → is_up (link_on panels from i) (up_to y moments) ≡ true) → latest_turn to Link past ≤ heard panels to from past + (2 * h + 1) =
      subst (λ p. ((i y : ℕ) → i < h → 1 ≤ y → y ≤ latest_turn p Link past → latest_turn p Link past < y + 2 * h
      → is_up (link_on panels from i) (up_to y moments) ≡ true) → latest_turn p Link past ≤ heard panels p from past + (2 * h + 1)) ends claim in
      let held = at (λ i y less one end late. up i y less (omega (arith, late, recent, short, few)) (omega (arith, end, l))) in
      omega (arith, held, short, few)

  downward_heard : (first last : ℕ) → latest_turn to Link past ≤ last → first + 14 ≤ latest_turn to Link past + 1
      → IsWayUp panels moments to from first last → latest_turn to Link past ≤ heard panels to from past + 15
  downward_heard first last l recent up =
      let h = links_between panels to from in
      let short = links_few panels to from t f in
      let ends = down_ends panels from to f t in
      let claim = heard_by_way panels from few moments run (down_from panels from) (λ j. down_from panels from (suc j)) h (down_begins panels from f)
      (λ j less. downward (down_step panels from j f (omega (arith, less, short))) refl)
      (λ j less. down_member panels from j f (omega (arith, less, short))) past is_past in
      let at : ((i y : ℕ) → i < h → 1 ≤ y → y ≤ latest_turn to Link past → latest_turn to Link past < y + 2 * h
      → is_up (down_from panels from (suc i)) (up_to y moments) ≡ true) → latest_turn to Link past ≤ heard panels to from past + (2 * h + 1) =
      subst (λ p. ((i y : ℕ) → i < h → 1 ≤ y → y ≤ latest_turn p Link past → latest_turn p Link past < y + 2 * h
      → is_up (down_from panels from (suc i)) (up_to y moments) ≡ true) → latest_turn p Link past ≤ heard panels p from past + (2 * h + 1)) ends
      claim in
      let held =
      at (λ i y less one end late. subst (λ k. is_up k (up_to y moments) ≡ true) (down_links panels from to i f t less)
      (up (h - i - 1) y (omega (arith, less)) (omega (arith, late, recent, short, few)) (omega (arith, end, l)))) in
      omega (arith, held, short, few)

  -- a panel has heard its own word of the tick of its turn of Link, or of the one before
  pub own_word : from ≡ to → latest_turn to Link past ≤ heard panels to from past + 1
  own_word e =
      let run' = run_tail panels past moments is_past run in
      let own' = own_heard panels to past in
      let back = one_back panels to to Link Hold past t tt run' in
      subst (λ p. latest_turn to Link past ≤ heard panels to p past + 1) (sym e) (omega (arith, own', back.0))

  pub joined_heard : (first last : ℕ) → latest_turn to Link past ≤ last → first + 14 ≤ latest_turn to Link past + 1
      → AreJoined panels moments from to first last → latest_turn to Link past ≤ heard panels to from past + 15
  joined_heard first last l recent (the_same e) = let h = own_word e in omega (arith, h)
  joined_heard first last l recent (way_up up) = upward_heard first last l recent up
  joined_heard first last l recent (way_down up) = downward_heard first last l recent up

-- each panel of a valid site has heard a word that is new enough for what is due at it
due_heard : (site : Site) (kept : Retained) (done : List Done) (moments : List Moment) (zone panel settled : ℕ) → IsAfterTick site moments zone
    → IsPanel site.panels panel → IsDueAfter site kept done moments zone panel settled
    → settled + round_of site.format + 1 ≤ heard site.panels panel (panel_of_zone site zone) moments
due_heard site kept done moments zone panel settled after p (own e l) =
    let format = after.valid.forms.format.0 in
    let lag = rw (after.ended.each panel Link p tt) at (turn_lag site.panels panel Link moments p tt after.run) in
    let mine = own_word site.panels moments moments after.run present after.valid.forms.panels.1 (panel_of_zone site zone) panel after.panel p (sym e)
    in
    omega (arith, format, lag, mine, l)
due_heard site kept done moments zone panel settled after p (by_way first last from by ends joined) =
    let format = after.valid.forms.format.0 in
    let turn =
    turn_in site.panels panel Link moments last p tt after.run (omega (arith, ends, format))
    (late (has_turned panel Link moments) (after.ended.each panel Link p tt)) in
    let then = link_tick panel turn.before ∙ turn.at in
    let came =
    joined_heard site.panels moments (Turned panel Link ∷ turn.before) after.run turn.turn after.valid.forms.panels.1 (panel_of_zone site zone)
    panel after.panel p first last (omega (arith, then)) (omega (arith, then, ends, format)) joined in
    let rises = heard_rises site.panels panel (panel_of_zone site zone) (Turned panel Link ∷ turn.before) moments turn.turn in
    omega (arith, came, rises, then, ends, from, format)
  where
    late : (b : Bool) → b ≡ true → last + owed_turn b ≤ tick_of moments
    late true e = omega (arith, ends, by)
    late false e = cc

-- the word that is kept is none, or was made in a turn of Hold, whose tick is its stamp
pub was_made : (source : ℕ) (word : List Moment) → IsMade source word → latest_turn source Hold word ≡ tick_of word
was_made source word (nothing e) = ap (λ w. latest_turn source Hold w) e ∙ sym (ap (λ w. tick_of w) e)
was_made source word (in_turn before e) =
    let here : latest_turn source Hold (Turned source Hold ∷ before) ≡ tick_of before = rw (eq_true source source refl) refl in
    ap (λ w. latest_turn source Hold w) e ∙ here ∙ sym (ap (λ w. tick_of w) e)

pub kept_stamp : (panels panel source : ℕ) (moments : List Moment)
    → latest_turn source Hold (kept_at panels panel source moments) ≡ heard panels panel source moments
kept_stamp panels panel source moments = was_made source (kept_at panels panel source moments) (kept_is panels panel source moments).made

in_word : (site : Site) (kept : Retained) (done : List Done) (moments : List Moment) (zone panel settled : ℕ) → IsAfterTick site moments zone
    → IsPanel site.panels panel → IsDueAfter site kept done moments zone panel settled
    → settled + round_of site.format + 1 ≤ latest_turn (panel_of_zone site zone) Hold (kept_at site.panels panel (panel_of_zone site zone) moments)
in_word site kept done moments zone panel settled after p late =
    omega (arith, due_heard site kept done moments zone panel settled after p late, kept_stamp site.panels panel (panel_of_zone site zone) moments)

pub due_kept : DueZoneIsKept
due_kept site kept done moments zone panel after p due =
    signal_holds site kept done moments (kept_at site.panels panel (panel_of_zone site zone) moments) (panel_of_zone site zone) zone
    (laid_out site after.valid) after.run (kept_is site.panels panel (panel_of_zone site zone) moments).past after.panel refl due.settled
    due.signal
    (in_word site kept done moments zone panel due.settled after p due.late)

pub due_released : DueReleaseIsKept
due_released site kept done moments zone panel after p due =
    out_holds site kept done moments (kept_at site.panels panel (panel_of_zone site zone) moments) (panel_of_zone site zone) zone
    (laid_out site after.valid) after.run (kept_is site.panels panel (panel_of_zone site zone) moments).past after.panel refl due.settled
    due.signal
    (in_word site kept done moments zone panel due.settled after p due.late)

pub due_by_hand : DueHandIsKept
due_by_hand site kept done moments zone panel after p due =
    hand_holds site kept done moments (kept_at site.panels panel (panel_of_zone site zone) moments) (panel_of_zone site zone) zone
    (laid_out site after.valid) after.run (kept_is site.panels panel (panel_of_zone site zone) moments).past after.panel refl due.settled
    due.signal
    (in_word site kept done moments zone panel due.settled after p due.late)

pub kept_caused : KeptZoneIsCaused
kept_caused site kept done moments zone panel run p h =
    let source = panel_of_zone site zone in
    subst (IsCausedAt site kept done moments zone) (kept_stamp site.panels panel source moments)
    (alarm_caused site kept done moments (kept_at site.panels panel source moments) zone run (kept_is site.panels panel source moments).past p h)

pub kept_release_caused : KeptReleaseIsCaused
kept_release_caused site kept done moments zone panel run p h =
    let source = panel_of_zone site zone in
    subst (IsCausedOut site kept done moments zone) (kept_stamp site.panels panel source moments)
    (released_caused site kept done moments (kept_at site.panels panel source moments) zone run (kept_is site.panels panel source moments).past p h)

pub kept_hand_caused : KeptHandIsCaused
kept_hand_caused site kept done moments zone panel run p h =
    let source = panel_of_zone site zone in
    subst (IsCausedByHand site kept done moments zone) (kept_stamp site.panels panel source moments)
    (hand_caused site kept done moments (kept_at site.panels panel source moments) zone run (kept_is site.panels panel source moments).past p h)
