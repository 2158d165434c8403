-- What stands at all panels, a moment later.
use Rattle.std.proofs.Common.{◌≡◌, ◌≢◌, ◌∙◌, ◌+◌, ◌<◌, ℕ, List, ◌∷◌, length, get_or, take, ap, refl, subst, sym}
use Rattle.std.proofs.Common.{Vec, Global, arith}
use Rattle.std.specs.Vec.{with_items}
use Rattle.std.proofs.lemmas.List.{take_more, with_items_is}
use Rattle.tick_units.specs.declared.task.Task.{Task}
use Rattle.tick_units.specs.declared.task.Task.TheVariants.{Poll, Decide, Supply, Desk, Hold, Link, Effect, Drive, Keep}
use Rattle.site_types.specs.declared.retained.Retained.{Retained}
use Rattle.site_types.specs.declared.site.Site.{Site}
use Rattle.site_types.specs.Done.{Done}
use Rattle.panel_rules.specs.Moments.{Moment as MomentOf, Turned as TurnedOf, tick_of}
use Rattle.plain_words.specs.declared.entering.Entering.{Entering}
use Rattle.plain_history.specs.declared.moment.Moment.{Moment}
use Rattle.plain_history.specs.declared.moment.Moment.TheVariants.{Turned}
use Rattle.plain_words.specs.Enterings.{AllEnter, AllEnterWith, AreEntering}
use Rattle.plain_history.specs.Histories.{history, moment_of}
use Rattle.plain_panel.specs.Network.{IsOtherTask}
use Rattle.plain_history.proofs.Histories.{history_more}

pub other_task : (task : Task) → task ≢ Hold → IsOtherTask task
other_task Poll apart = tt
other_task Decide apart = tt
other_task Supply apart = tt
other_task Desk apart = tt
other_task Hold apart = absurd (apart refl)
other_task Link apart = tt
other_task Effect apart = tt
other_task Drive apart = tt
other_task Keep apart = tt

-- a turn is of one panel
pub same_panel : (moment : Moment) (panel other : ℕ) (task other_task : Task) → moment ≡ Turned panel task
    → moment_of moment ≡ TurnedOf other other_task → panel ≡ other
same_panel moment panel other task other_task is told =
    let both : TurnedOf panel task ≡ TurnedOf other other_task = sym (ap moment_of is) ∙ told in cc

-- the first moments, one more of them
pub history_at : (moments : List Moment) (k : ℕ) (d : Moment) → k < length moments → history (take (k + 1) moments) ≡ moment_of (get_or moments k d)
    ∷ history (take k moments)
history_at moments k d small = ap history (take_more moments k d small) ∙ history_more (take k moments) (get_or moments k d)

-- panels that were written in place
pub items_written : (panels : Vec Entering Global) (written : List Entering) → length written ≡ length panels.items
    → (with_items panels written).items ≡ written
items_written panels written same = let as_long : length written ≡ panels.len = omega (arith, same, panels.ok) in with_items_is panels written as_long

-- the panels of a site that a step wrote in place, a moment later
pub panels_stepped : (site : Site) (kept : Retained) (done : List Done) (tick : ℕ) (before : List MomentOf) (moment : MomentOf)
    → (panels : Vec Entering Global) (earlier written : List Entering) → length written ≡ length earlier → earlier ≡ panels.items
    → AllEnterWith site kept done tick moment earlier written → tick_of before ≡ tick → AreEntering site kept done before panels.items
    → AreEntering site kept done (moment ∷ before) (with_items panels written).items
panels_stepped site kept done tick before moment panels earlier written same is stepped ticks stands =
    let long : length written ≡ length panels.items = same ∙ ap length is in
    let all = stepped 1 before (subst (λ (xs : List Entering). AllEnter site kept done before 1 xs) (sym is) stands.all) ticks in
    subst (λ (xs : List Entering). AreEntering site kept done (moment ∷ before) xs) (sym (items_written panels written long))
    (record { all = all; count = long ∙ stands.count })
