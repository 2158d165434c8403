-- What a point's run tells of the rounds for which it is held.
use Rattle.std.proofs.Common.{◌≡◌, inl, inr, ℕ, ◌+◌, ◌-◌, ◌≤◌, ◌<◌, Bool, true, false, List, Some, slice_get, get_or, length, nat_lt, sym, ◌∙◌, ap, subst, arith}
use Rattle.std.proofs.lemmas.Bool.{cases_lt}
use Rattle.std.proofs.lemmas.Option.{slice_get-get_or}
use Rattle.site_types.specs.declared.retained.Retained.{Retained}
use Rattle.site_types.specs.declared.site.Site.{Site}
use Rattle.site_types.specs.Done.{Done}
use Rattle.site_types.specs.Profile.{round_of}
use Rattle.panel_rules.specs.Moments.{Moment}
use Rattle.panel_rules.specs.Due.{SignalsThrough}
use Rattle.panel_rules.proofs.Floors.{lt_from}
use Rattle.point_runs.specs.declared.point_run.PointRun.{PointRun}
use Rattle.point_runs.specs.Runs.{IsLastRound, RunStands}
use Rattle.zone_signals.specs.declared.kind.Kind.{Kind}
use Rattle.zone_signals.specs.Kinds.{fits_kind}
use Rattle.zone_signals.specs.Rounds.{AreRuns, IsHeldAfter, IsLastHeld, TellsSignals}

pub differ : (b : Bool) → b ≡ true → b ≡ false → ⊥
differ true p q = cc
differ false p q = cc

-- the run at a place
pub run_at : (runs : List PointRun) (k : ℕ) (run : PointRun) → k < length runs → run ≡ get_or runs k run → slice_get runs k ≡ Some run
run_at runs k run less is = slice_get-get_or runs k run less ∙ ap Some (sym is)

pub none_positive : (n : ℕ) → n ≤ 0 → nat_lt 0 n ≡ true → ⊥
none_positive n none some = let less = lt_from 0 n some in omega (arith, none, less)

module _ (site : Site) (kept : Retained) (done : List Done) (moments : List Moment) where
  module _ (signals : ℕ → ℕ → Bool) (tells : TellsSignals site kept done moments signals) (point : ℕ) where
    pub last_of : (now first : ℕ) → IsLastRound (signals point) (round_of site.format) now first → IsLastHeld site kept done moments point now first
    last_of now first is = record {
      held = λ begun tick low high. (tells point tick).0 (is.holds begun tick low high);
      ended = is.ended;
      latest = λ other begun ended held. is.latest other begun ended (λ tick low high. (tells point tick).1 (held tick low high));
    }

    -- a run that lasts tells of each span that ends now
    pub through_of : (now first : ℕ) (run : PointRun) → 1 ≤ now → RunStands (signals point) (round_of site.format) (now - 1) run
        → 1 ≤ run.since → run.since ≤ first → SignalsThrough site kept done moments point first now
    through_of now first run begun stands some by tick low high =
        (tells point tick).0 (stands.through tick some (omega (arith, by, low)) (omega (arith, high, begun)))

    pub of_through : (now first : ℕ) (run : PointRun) → 1 ≤ first → first < now → RunStands (signals point) (round_of site.format) (now - 1) run
        → SignalsThrough site kept done moments point first now → (1 ≤ run.since) × (run.since ≤ first)
    of_through now first run one past stands through =
        let on : signals point (now - 1) ≡ true = (tells point (now - 1)).1 (through (now - 1) (omega (arith, past)) (omega (arith, past))) in
        let some : 0 < run.since = lt_from 0 run.since (sym stands.lasts ∙ on) in (
          omega (arith, some),
          elim (cases_lt first run.since) [
            | inl late ↦
                (let by = stands.by in
                absurd
                (differ (signals point (run.since - 1)) ((tells point (run.since - 1)).1 (through (run.since - 1) (omega (arith, late)) (omega (arith, late, by, past))))
                (stands.begins (omega (arith, some)))))
            | inr early ↦ early
          ],
        )

  -- what is kept of a point tells the last round for which it is held
  pub last_run : (now round before first : ℕ) (runs : List PointRun) (point : ℕ) (run : PointRun) → AreRuns site kept done moments now runs
      → slice_get runs point ≡ Some run → round ≡ round_of site.format → before ≡ now - 1
      → ((test : ℕ → Bool) → 1 ≤ round → RunStands test round before run → IsLastRound test round (before + 1) first)
      → IsLastHeld site kept done moments point now first
  last_run now round before first runs point run are at round_is before_is last =
      let begun = are.begun in
      let some = are.some in
      let stands : RunStands (are.signals point) round before run =
      subst (λ n. RunStands (are.signals point) n before run) (sym round_is)
      (subst (λ n. RunStands (are.signals point) (round_of site.format) n run) (sym before_is) (are.each point run at)) in
      last_of are.signals are.tells point now first
      (subst (λ n. IsLastRound (are.signals point) (round_of site.format) n first) (omega (arith, before_is, begun))
      (subst (λ n. IsLastRound (are.signals point) n (before + 1) first) round_is (last (are.signals point) (omega (arith, round_is, some)) stands)))

  -- a round after a tick for which the point is held
  pub held_after : (kind : Kind) (point after now first : ℕ) → fits_kind kind site point ≡ true → IsLastHeld site kept done moments point now first
      → after < first → IsHeldAfter site kept done moments kind after now point
  held_after kind point after now first fits last less = (
    first,
    record {
      fits = fits;
      since = less;
      held = last.held (omega (arith, less));
      ended = last.ended (omega (arith, less));
    },
  )

  pub after_held : (kind : Kind) (point after now first : ℕ) → IsLastHeld site kept done moments point now first
      → IsHeldAfter site kept done moments kind after now point → after < first
  after_held kind point after now first last held =
      let since = held.1.since in
      let ended = held.1.ended in
      let late = last.latest held.0 (omega (arith, since)) ended held.1.held in
      omega (arith, since, late)
