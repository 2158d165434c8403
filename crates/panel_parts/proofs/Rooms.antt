-- What the lanes have room for.
use Rattle.std.proofs.Common.{◌≡◌, ℕ, ◌+◌, ◌*◌, ◌^◌, ◌≤◌, List, ◌∷◌, Bool, true, false, arith, length-drop, lit≤}
use Rattle.tick_units.specs.Lane.{HasRoom}
use Rattle.tick_units.specs.Ticks.{last_tick}
use Rattle.tick_units.specs.declared.task.Task.TheVariants.{Poll, Decide}
use Rattle.site_types.specs.declared.retained.Retained.{Retained}
use Rattle.site_types.specs.declared.site.Site.{Site}
use Rattle.site_types.specs.Done.{Done}
use Rattle.panel_rules.specs.Moments.{Moment, Turned, IsRun, IsPanel, has_turned, tick_of}
use Rattle.panel_rules.specs.Answers.{answers}
use Rattle.panel_rules.specs.Counts.{answer_count, taken_by_decide, taken_by_hold}
use Rattle.panel_rules.proofs.Counts.{Lies, answers_lie, findings_lie, answers_few, decide_behind, owed}
use Rattle.hold_calls.specs.Lanes.{answer_lane, found, finding_lane}
use Rattle.hold_calls.proofs.Steps.{found_length}

-- where the giver has yet to turn, at most 32 items lie in a lane
half_full : (put taken now : ℕ) (giver taker : Bool) → giver ≡ false → Lies put taken now giver taker → put ≤ taken + 32
half_full put taken now giver true e h = let l = h.lies in let f = rw e at h.few in omega (arith, l, f)
half_full put taken now giver false e h = let l = h.lies in let f = rw e at h.few in omega (arith, l, f)

counted : (n : ℕ) (turned : Bool) (tick : ℕ) → n + owed turned ≤ 32 * tick → tick ≤ last_tick → n + 32 ≤ 2 ^ 40
counted n true tick h l = let top : 32000000032 ≤ 2 ^ 40 = lit≤ tt in omega (arith, h, l, top)
counted n false tick h l = let top : 32000000032 ≤ 2 ^ 40 = lit≤ tt in omega (arith, h, l, top)

module _ (site : Site) (panel : ℕ) (before : List Moment) (p : IsPanel site.panels panel) (few : tick_of before ≤ last_tick) where
  pub room_for_poll : IsRun site.panels (Turned panel Poll ∷ before) → HasRoom (answer_lane site panel before) 32
  room_for_poll run =
      let lie = answers_lie site site.panels panel before p run.0 in
      let half = half_full _ _ _ _ _ run.1 lie in (
        omega (arith, length-drop (taken_by_decide site panel before) (answers site panel before), half),
        counted (answer_count site panel before) (has_turned panel Poll before) (tick_of before) (answers_few site site.panels panel before p run.0)
            few,
      )

  pub room_for_decide : (kept : Retained) (done : List Done) → IsRun site.panels (Turned panel Decide ∷ before)
      → HasRoom (finding_lane site kept done panel before) 32
  room_for_decide kept done run =
      let lie = findings_lie site site.panels panel before p run.0 in
      let half = half_full _ _ _ _ _ run.1 lie in
      let count =
      counted (answer_count site panel before) (has_turned panel Poll before) (tick_of before) (answers_few site site.panels panel before p run.0)
      few in (
        omega (
          arith,
          length-drop (taken_by_hold site panel before) (found site kept done panel before),
          found_length site kept done panel before,
          half,
        ),
        omega (arith, count, decide_behind site panel before),
      )
