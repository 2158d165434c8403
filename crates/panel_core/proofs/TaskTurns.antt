-- What a turn of a task is told of the system: its panel, silent panels and links, the outputs that are disabled.
use Rattle.std.proofs.Common.{◌≡◌, ◌≢◌, ◌∙◌, ◌+◌, ◌≤◌, ℕ, List, [], ◌∷◌, false, ap, arith, subst, sym}
use Rattle.tick_units.specs.declared.seat.Seat.{Seat}
use Rattle.tick_units.specs.declared.task.Task.{Task}
use Rattle.tick_units.specs.declared.task.Task.TheVariants.{Keep}
use Rattle.site_types.specs.declared.retained.Retained.{Retained}
use Rattle.site_types.specs.declared.site.Site.{Site}
use Rattle.site_types.specs.Bits.{mask_of}
use Rattle.site_types.specs.Done.{Done}
use Rattle.site_types.specs.Profile.{silent_of}
use Rattle.panel_bridges.proofs.RingStates.{silent_same}
use Rattle.panel_links.specs.Stands.{is_silent}
use Rattle.panel_rules.specs.Faults.{silent_panels}
use Rattle.panel_rules.specs.Kept.{heard}
use Rattle.panel_rules.specs.Moments.{Moment, Turned, IsPanel, IsRun, turn_of, tick_of}
use Rattle.panel_rules.specs.Run.{tells_fault}
use Rattle.panel_rules.specs.Words.{ring_calls}
use Rattle.panel_core.specs.declared.system.System.{System}
use Rattle.panel_core.specs.Changes.{MakesTaskTurn, MakesTurns}
use Rattle.panel_core.specs.Stands.{MayTurnSeat, MayTurnTask, StandsFor}
use Rattle.panel_core.proofs.Orders.{turn_is}
use Rattle.panel_core.proofs.Orders.{seat_panel}

-- a panel of one site for which the system stands is a panel of each
pub member_too : (site other : Site) (kept before_kept : Retained) (before earlier : List Moment) (system : System) (panel : ℕ)
    → StandsFor other before_kept earlier system → IsPanel other.panels panel → StandsFor site kept before system → IsPanel site.panels panel
member_too site other kept before_kept before earlier system panel there p here =
    let one = there.count in
    let two = here.count in
    (p.0, omega (arith, p.1, one, two))

-- a seat that isn't Keep's is of a task of a panel, and its turn the moment of that task
seat_turn : (seat : Seat) (task : Task) → seat.task ≡ task → task ≢ Keep → turn_of false seat.panel seat.task ≡ Turned seat.panel task
seat_turn seat task is other = ap (turn_of false seat.panel) is ∙ turn_is false seat.panel task other

pub may_turn_task : (seat : Seat) (system : System) (task : Task) → MayTurnSeat seat system → seat.task ≡ task → task ≢ Keep
    → MayTurnTask seat.panel task system
may_turn_task seat system task r is other = record {
  site = r.site;
  kept = r.kept;
  before = r.before;
  stands = r.stands;
  member = seat_panel r.site.panels seat r.known r.panels;
  run = subst (λ moment. IsRun r.site.panels (moment ∷ r.before)) (seat_turn seat task is other) r.run;
  few = r.few;
}

pub made_turn : (seat : Seat) (old new : System) (task : Task) → seat.task ≡ task → task ≢ Keep → MakesTaskTurn old seat.panel task new
    → MakesTurns old (seat ∷ []) new
made_turn seat old new task is other made site kept before h run =
    let moment = seat_turn seat task is other in
    subst (λ m. StandsFor site kept (m ∷ before) new) (sym moment) (made site kept before h (subst (λ m. IsRun site.panels (m ∷ before)) moment run))

-- the panels that are silent, as the ring tells them at a tick
pub silent_told : (site : Site) (kept : Retained) (done : List Done) (panel : ℕ) (before : List Moment) (silent now limit : ℕ) → site.panels ≤ 8
    → IsPanel site.panels panel → now ≡ tick_of before → limit ≡ silent_of site.format
    → silent ≡ mask_of 8 (λ k. is_silent site.panels panel (ring_calls site kept done (tells_fault site kept done) before) now limit (k + 1))
    → silent ≡ silent_panels site (λ source. heard site.panels panel source before) (tick_of before)
silent_told site kept done panel before silent now limit few p tick is told =
    let told_of = tells_fault site kept done in
    let calls = ring_calls site kept done told_of before in
    told
    ∙ ap (λ t. mask_of 8 (λ k. is_silent site.panels panel calls t limit (k + 1))) tick
    ∙ ap (λ l. mask_of 8 (λ k. is_silent site.panels panel calls (tick_of before) l (k + 1))) is
    ∙ silent_same site kept done told_of few panel p before (tick_of before)
