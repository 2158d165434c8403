-- Which answers a loop and a poller put into a lane, whatever they stand for.
use Rattle.std.specs.Prelude.{◌≡◌, ◌+◌, ◌*◌, ◌%◌, ℕ, List}
use Rattle.tick_units.specs.Lane.{LaneState, with_put}
use Rattle.site_types.specs.declared.answer.Answer.{Answer}
use Rattle.site_types.specs.declared.point_state.PointState.{PointState}
use Rattle.site_types.specs.declared.site.Site.{Site}
use Rattle.site_types.specs.Profile.{round_of}
use Rattle.site_types.specs.Valid.{IsValid}
use Rattle.isolators.specs.Reach.{Cable}
use Rattle.loop_poller.specs.declared.polled_line.PolledLine.{PolledLine}
use Rattle.loop_poller.specs.declared.poller.Poller.{Poller}
use Rattle.loop_poller.specs.Asked.{asked_in, asked_on}
use Rattle.loop_poller.specs.Calls.{Call, told_cable, told_point}
use Rattle.loop_poller.specs.Stands.{AreStates, LineStands, StandsFor}

-- if the first address is that of the group whose tick it is, the answers of the points of that group are put
abbrev pub PutsGroup : PolledLine → List PointState → ℕ → ℕ → LaneState Answer → LaneState Answer → Type 0
PutsGroup polled states first tick lane answers =
    (site : Site) (panel line : ℕ) (points : ℕ → PointState) (cables : ℕ → Cable)
    → IsValid site → LineStands site panel line (cables line) polled → AreStates site points states
    → first ≡ 8 * (tick % round_of site.format) + 1
    → answers ≡ with_put lane (asked_on site panel points cables tick line)

-- the answers of a tick are put, in order of loop, then address
abbrev pub PutsAnswers : Poller → ℕ → LaneState Answer → LaneState Answer → Type 0
PutsAnswers poller tick lane answers =
    (site : Site) (panel : ℕ) (calls : List Call)
    → StandsFor site panel calls poller
    → answers ≡ with_put lane (asked_in site panel (told_point calls) (told_cable calls) tick)
