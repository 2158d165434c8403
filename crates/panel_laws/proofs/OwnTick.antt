-- What is shown in its own tick, and again after a reset.
use Rattle.std.proofs.Common.{◌≡◌, ℕ, zero, suc, ◌+◌, ◌-◌, ◌≤◌, ◌<◌, ◌&&◌, not, List, [], ◌∷◌, Some, slice_get, Bool, true, false, refl, sym, ◌∙◌, ap, subst, arith}
use Rattle.std.specs.List.{list_any, range_with_len}
use Rattle.tick_units.specs.declared.task.Task.TheVariants.{Hold}
use Rattle.site_types.specs.declared.piece_state.PieceState.{PieceState}
use Rattle.site_types.specs.declared.piece_state.PieceState.TheVariants.{Open, Short}
use Rattle.site_types.specs.declared.site.Site.{Site}
use Rattle.site_types.specs.Bits.{has_bit, mask_of}
use Rattle.site_types.proofs.Masks.{has_bit-mask}
use Rattle.site_types.proofs.ValidSites.{zone_at}
use Rattle.isolators.specs.Reach.{is_open, is_short}
use Rattle.loop_poller.specs.Asked.{status_on}
use Rattle.site_types.specs.Things.{loop_of}
use Rattle.panel_links.specs.Stands.{is_link_of}
use Rattle.panel_rules.specs.Moments.{Moment, Began, Happened, Turned, Kept, tick_of, is_fresh, IsPanel, IsRun, up_to}
use Rattle.panel_rules.specs.States.{piece_of, is_up}
use Rattle.panel_rules.specs.Kept.{made_at}
use Rattle.panel_rules.specs.Zones.{panel_of, panel_of_zone}
use Rattle.panel_rules.specs.Due.{own}
use Rattle.panel_laws.specs.FaceLaws.{HasEnded}
use Rattle.panel_laws.specs.OtherDeadlines.{StandsAgain, PieceIsShown, LinkIsShown}
use Rattle.panel_rules.proofs.Bools.{both, any_at, not_true}
use Rattle.panel_rules.proofs.Turns.{turn_lag}
use Rattle.panel_rules.proofs.Stays.{ByEvents, state_stays, up_to_here}
use Rattle.panel_rules.proofs.KeptWords.{IsMade, nothing, in_turn, made_is, made_tick}
use Rattle.panel_laws.proofs.FacesShow.{due_zone_shown}

pub stands_again : StandsAgain
stands_again site kept done stored m zone plan reset addition settled after is signal soon late =
    let of_plan : panel_of_zone site zone ≡ plan.panel = ap panel_of is in
    let format = after.valid.forms.format.0 in
    due_zone_shown site kept done stored m zone plan plan.panel after (zone_at site after.valid zone plan is).panel is
    (record { settled = settled; signal = signal; late = own (sym of_plan) (omega (arith, soon, late, format)) })

-- at Hold's turn of a tick that has ended, what events told is as it is after the tick
module _ (site : Site) (m : List Moment) (after : HasEnded site m) (panel : ℕ) (p : IsPanel site.panels panel) where
  pub made_now : tick_of (made_at panel m) ≡ tick_of m
  made_now = let lag = rw (after.ended.each panel Hold p tt) at (turn_lag site.panels panel Hold m p tt after.run) in let t = made_tick panel m in
      omega (arith, lag, t)

  told_now : {X : Type 0} (value : List Moment → X) → ByEvents value → value (made_at panel m) ≡ value m
  told_now value by = go (made_is panel m).made
    where
      go : IsMade panel (made_at panel m) → value (made_at panel m) ≡ value m
      go (nothing e) =
          let t = made_now in
          let z = ap (λ w. tick_of w) e in
          ap value e ∙ none m after.run (omega (arith, t, z))
        where
          none : (m : List Moment) → IsRun site.panels m → tick_of m ≡ 0 → value [] ≡ value m
          none [] run z = refl
          none (Began ∷ before) run z = absurd (omega (arith, z))
          none (Happened event ∷ before) run z = absurd (fresh before run.1 z)
            where
              fresh : (b : List Moment) → is_fresh b ≡ true → tick_of b ≡ 0 → ⊥
              fresh [] f z = cc
              fresh (Began ∷ b) f z = omega (arith, z)
              fresh (Happened event ∷ b) f z = fresh b f z
              fresh (Turned panel task ∷ b) f z = cc
              fresh (Kept failed ∷ b) f z = cc
          none (Turned who task ∷ before) run z = none before run.0 z ∙ sym (by.turned who task before)
          none (Kept failed ∷ before) run z = none before run.0 z ∙ sym (by.kept failed before)
      go (in_turn before e) =
          sym (state_stays value site.panels (made_at panel m) m by (made_is panel m).past after.run (subst (λ w. is_fresh w ≡ false) (sym e) refl))
          ∙ ap (λ t. value (up_to t m)) made_now
          ∙ ap value (up_to_here m)

piece_by_events : (panel line piece : ℕ) → ByEvents (λ before. piece_of panel line piece before)
piece_by_events panel line piece = record { began = λ before. refl; turned = λ who task before. refl; kept = λ failed before. refl }

link_by_events : (link : ℕ) → ByEvents (λ before. is_up link before)
link_by_events link = record { began = λ before. refl; turned = λ who task before. refl; kept = λ failed before. refl }

-- a number of a range is at its place
at_range : (first many k : ℕ) → k < many → slice_get (range_with_len first many) k ≡ Some (first + k)
at_range first zero k l = absurd (omega (arith, l))
at_range first (suc many) zero l = ap Some (zero_more first)
  where
    zero_more : (n : ℕ) → n ≡ n + 0
    zero_more n = omega arith
at_range first (suc many) (suc k) l = at_range (first + 1) many k (omega (arith, l)) ∙ ap Some (over first k)
  where
    over : (n k : ℕ) → n + 1 + k ≡ n + suc k
    over n k = omega arith

some_piece : (test : PieceState → Bool) (cable : ℕ → PieceState) (last piece : ℕ) → piece ≤ last → test (cable piece) ≡ true
    → list_any (λ k. test (cable k)) (range_with_len 0 (last + 1)) ≡ true
some_piece test cable last piece l t =
    any_at (λ k. test (cable k)) (range_with_len 0 (last + 1)) piece piece
    (at_range 0 (last + 1) piece (omega (arith, l)) ∙ ap Some (zero_more piece)) t
  where
    zero_more : (n : ℕ) → 0 + n ≡ n
    zero_more n = omega arith

pub piece_shown : PieceIsShown
piece_shown site kept done stored m panel line piece plan after p one four is last = (broken, shorted)
  where
    here : (line - 1) + 1 ≡ line
    here = omega (arith, one)

    same : piece_of panel line piece (made_at panel m) ≡ piece_of panel line piece m
    same = told_now site m after panel p (λ b. piece_of panel line piece b) (piece_by_events panel line piece)

    broken : piece_of panel line piece m ≡ Open
        → has_bit (mask_of 4 (λ k. (status_on (loop_of site panel (k + 1)) (λ x. piece_of panel (k + 1) x (made_at panel m))).broken)) (line - 1)
        ≡ true
    broken e =
        has_bit-mask 4 (λ k. (status_on (loop_of site panel (k + 1)) (λ x. piece_of panel (k + 1) x (made_at panel m))).broken) (line - 1)
        (omega (arith, one, four))
        ∙ ap (λ k. (status_on (loop_of site panel k) (λ x. piece_of panel k x (made_at panel m))).broken) here
        ∙ ap (λ o. (status_on o (λ x. piece_of panel line x (made_at panel m))).broken) is
        ∙ some_piece is_open (λ x. piece_of panel line x (made_at panel m)) plan.last piece last (ap is_open (same ∙ e))

    shorted : piece_of panel line piece m ≡ Short
        → has_bit (mask_of 4 (λ k. (status_on (loop_of site panel (k + 1)) (λ x. piece_of panel (k + 1) x (made_at panel m))).shorted)) (line - 1)
        ≡ true
    shorted e =
        has_bit-mask 4 (λ k. (status_on (loop_of site panel (k + 1)) (λ x. piece_of panel (k + 1) x (made_at panel m))).shorted) (line - 1)
        (omega (arith, one, four))
        ∙ ap (λ k. (status_on (loop_of site panel k) (λ x. piece_of panel k x (made_at panel m))).shorted) here
        ∙ ap (λ o. (status_on o (λ x. piece_of panel line x (made_at panel m))).shorted) is
        ∙ some_piece is_short (λ x. piece_of panel line x (made_at panel m)) plan.last piece last (ap is_short (same ∙ e))

pub link_shown : LinkIsShown
link_shown site kept done stored m panel link after p one eight of down =
    let here : (link - 1) + 1 ≡ link = omega (arith, one) in
    let same = told_now site m after panel p (λ b. is_up link b) (link_by_events link) in
    has_bit-mask 8 (λ k. is_link_of site.panels panel (k + 1) && not (is_up (k + 1) (made_at panel m))) (link - 1) (omega (arith, one, eight))
    ∙ ap (λ k. is_link_of site.panels panel k && not (is_up k (made_at panel m))) here
    ∙ both (is_link_of site.panels panel link) (not (is_up link (made_at panel m))) of (not_true (is_up link (made_at panel m)) (same ∙ down))
