-- Which outputs are on. The facts that an Effect turn solves the markers over are an argument, by the panel
-- and by what had befallen before that turn.
use Rattle.std.specs.Prelude.{ℕ, ◌+◌, ◌==◌, ◌&&◌, ◌||◌, not, nat_le, nat_lt, Bool, true, false, List, [], ◌∷◌, length}
use Rattle.std.specs.Prelude.{Option, Some, None, slice_get, if◌then◌else◌}
use Rattle.std.specs.List.{list_any, position, range_with_len}
use Rattle.tick_units.specs.declared.task.Task.TheVariants.{Effect, Drive}
use Rattle.site_types.specs.declared.event.Event.{Event}
use Rattle.site_types.specs.declared.event.Event.TheVariants.{Confirmed}
use Rattle.site_types.specs.declared.output.Output.{Output}
use Rattle.site_types.specs.declared.output_kind.OutputKind.{OutputKind}
use Rattle.site_types.specs.declared.output_kind.OutputKind.TheVariants.{Sounder}
use Rattle.site_types.specs.declared.retained.Retained.{Retained}
use Rattle.site_types.specs.declared.site.Site.{Site}
use Rattle.site_types.specs.Bits.{mask_of}
use Rattle.site_types.specs.Done.{Done, OutputOff, DelaysOff, in_force, override_done_in, silence_before}
use Rattle.panel_rules.specs.Moments.{Moment, Began, Happened, Turned, Kept, tick_of, up_to}
use Rattle.panel_rules.specs.Latest.{made_latest}
use Rattle.panel_rules.specs.Markers.{Facts, hand_facts, solution}

-- there is an output, and it passes the test
abbrev pub on_output : (Output → Bool) → Option Output → Bool
on_output test None = false
on_output test (Some output) = test output

abbrev pub panel_of_plan : Option Output → ℕ
panel_of_plan None = 0
panel_of_plan (Some output) = output.panel

-- the panel of an output
abbrev pub panel_of_output : Site → ℕ → ℕ
panel_of_output site output = panel_of_plan (slice_get site.outputs output)

abbrev pub delay_of_plan : Option Output → ℕ
delay_of_plan None = 0
delay_of_plan (Some output) = output.delay

-- the delay of an output
abbrev pub delay_of : Site → ℕ → ℕ
delay_of site output = delay_of_plan (slice_get site.outputs output)

abbrev pub is_sounder_kind : OutputKind → Bool
is_sounder_kind Sounder = true
is_sounder_kind _ = false

abbrev pub is_sounder : Site → ℕ → Bool
is_sounder site output = on_output (λ o. is_sounder_kind o.kind) (slice_get site.outputs output)

-- the place of the output of a panel that has this number
abbrev pub output_numbered : Site → ℕ → ℕ → Option ℕ
output_numbered site panel number =
    position (λ (o : Output). (o.panel == panel) && (o.number == number)) site.outputs

abbrev pub on_place : (ℕ → Bool) → Option ℕ → Bool
on_place test None = false
on_place test (Some output) = test output

-- the mask of the outputs of a panel that pass a test: bit `number - 1` is the output with this number
unfoldable pub outputs_where : Site → ℕ → (ℕ → Bool) → ℕ
outputs_where site panel test = mask_of 32 (λ k. on_place test (output_numbered site panel (k + 1)))

-- some zone of the site passes a test
abbrev pub some_zone : Site → (ℕ → Bool) → Bool
some_zone site test = list_any test (range_with_len 0 (length site.zones))

-- a set of zones has a zone, and each of it is in another set
abbrev pub is_within : Site → (ℕ → Bool) → (ℕ → Bool) → Bool
is_within site zones others =
    some_zone site zones && not (some_zone site (λ zone. zones zone && not (others zone)))

-- the marker of an output is true over facts
abbrev pub is_true_over : Site → ℕ → Facts → Bool
is_true_over site output facts = on_output (λ o. solution site facts o.marker) (slice_get site.outputs output)

module _ (site : Site) (facts : ℕ → List Moment → Facts) where
  -- the latest Effect turn of the output's panel requests it, or requests it by hand; before the first one
  -- nothing is requested
  abbrev pub is_requested : ℕ → List Moment → Bool
  is_requested output moments =
      made_latest false (panel_of_output site output) Effect
      (λ before. is_true_over site output (facts (panel_of_output site output) before)) moments

  abbrev pub is_requested_by_hand : ℕ → List Moment → Bool
  is_requested_by_hand output moments =
      made_latest false (panel_of_output site output) Effect
      (λ before. is_true_over site output (hand_facts (facts (panel_of_output site output) before))) moments

  -- an output is asked, and asked by hand, at the latest turn of Drive
  abbrev pub is_asked : ℕ → List Moment → Bool
  is_asked output moments =
      made_latest false (panel_of_output site output) Drive (is_requested output) moments

  -- the ticks of the present unbroken run of turns of Drive at which it was asked, the latest first
  abbrev pub asked_run : ℕ → List Moment → List ℕ
  asked_run output [] = []
  asked_run output (Began ∷ before) = asked_run output before
  asked_run output (Happened event ∷ before) = asked_run output before
  asked_run output (Turned panel Drive ∷ before) =
      if panel == panel_of_output site output then (if is_requested output before then tick_of before
      ∷ asked_run output before else []) else asked_run output before
  asked_run output (Turned panel task ∷ before) = asked_run output before
  asked_run output (Kept failed ∷ before) = asked_run output before

  -- the zones that were released for the latest Effect turn of a panel, and those for its latest turn of
  -- Drive
  abbrev pub released_at_effect : ℕ → List Moment → ℕ → Bool
  released_at_effect panel moments =
      made_latest (λ zone. false) panel Effect (λ before. (facts panel before).released) moments

  abbrev pub released_at_drive : ℕ → List Moment → ℕ → Bool
  released_at_drive panel moments = made_latest (λ zone. false) panel Drive (released_at_effect panel) moments

  -- at each turn of Drive after a tick the zones released have one, and are within a set
  abbrev pub stays_within : ℕ → ℕ → (ℕ → Bool) → List Moment → Bool
  stays_within panel since zones [] = true
  stays_within panel since zones (Began ∷ before) = stays_within panel since zones before
  stays_within panel since zones (Happened event ∷ before) = stays_within panel since zones before
  stays_within panel since zones (Turned other Drive ∷ before) =
      if (other == panel)
      && nat_lt since (tick_of before) then is_within site (released_at_effect panel before) zones
      && stays_within panel since zones before else stays_within panel since zones before
  stays_within panel since zones (Turned other task ∷ before) = stays_within panel since zones before
  stays_within panel since zones (Kept failed ∷ before) = stays_within panel since zones before

  -- a silence done in a tick takes the zones released at that tick's turn of Drive
  abbrev pub silence_holds : ℕ → List Moment → Option ℕ → Bool
  silence_holds panel moments None = false
  silence_holds panel moments (Some tick) =
      stays_within panel tick (released_at_drive panel (up_to tick moments)) moments

  module _ (kept : Retained) (done : List Done) where
    -- the sounders of a panel are quiet: the last silence or resound done before the tick is a silence, and
    -- since its tick no other zone was released, and always one
    abbrev pub is_quiet : ℕ → List Moment → Bool
    is_quiet panel moments = silence_holds panel moments (silence_before panel (tick_of moments) done)

    -- from some tick of the run on the delay has passed, or an override was done
    abbrev pub is_over : ℕ → ℕ → ℕ → List ℕ → Bool
    is_over panel delay tick run =
        list_any (λ first. nat_le (first + delay) tick || override_done_in panel first tick done) run

    -- no delay holds the output back at a turn of Drive made now
    abbrev pub may_act : ℕ → List Moment → Bool
    may_act output before =
        (is_requested_by_hand output before || (delay_of site output == 0))
        || (in_force site kept (DelaysOff (panel_of_output site output)) (tick_of before) done
        || is_over (panel_of_output site output) (delay_of site output) (tick_of before)
        (asked_run output (Turned (panel_of_output site output) Drive ∷ before)))

    -- a silence keeps the output quiet at a turn of Drive made now
    abbrev pub is_silenced : ℕ → List Moment → Bool
    is_silenced output before =
        is_sounder site output
        && is_quiet (panel_of_output site output) (Turned (panel_of_output site output) Drive ∷ before)

    -- the output is on after a turn of Drive made now: it is requested, not disabled, not silenced, and no
    -- delay holds it back
    abbrev pub goes_on : ℕ → List Moment → Bool
    goes_on output before =
        (is_requested output before && not (in_force site kept (OutputOff output) (tick_of before) done))
        && (not (is_silenced output before) && may_act output before)

    -- the output is on after the latest turn of Drive
    abbrev pub is_on : ℕ → List Moment → Bool
    is_on output moments = made_latest false (panel_of_output site output) Drive (goes_on output) moments

    -- the ticks of the present unbroken run of turns of Drive after which it was on, the latest first
    abbrev pub on_run : ℕ → List Moment → List ℕ
    on_run output [] = []
    on_run output (Began ∷ before) = on_run output before
    on_run output (Happened event ∷ before) = on_run output before
    on_run output (Turned panel Drive ∷ before) =
        if panel == panel_of_output site output then (if goes_on output before then tick_of before
        ∷ on_run output before else []) else on_run output before
    on_run output (Turned panel task ∷ before) = on_run output before
    on_run output (Kept failed ∷ before) = on_run output before

-- the ticks in which the output was confirmed from outside
abbrev pub and_confirmation : ℕ → ℕ → Event → List ℕ → List ℕ
and_confirmation output tick (Confirmed other) ticks = if other == output then tick ∷ ticks else ticks
and_confirmation output tick _ ticks = ticks

abbrev pub confirmations : ℕ → List Moment → List ℕ
confirmations output [] = []
confirmations output (Began ∷ before) = confirmations output before
confirmations output (Happened event ∷ before) =
    and_confirmation output (tick_of before) event (confirmations output before)
confirmations output (Turned panel task ∷ before) = confirmations output before
confirmations output (Kept failed ∷ before) = confirmations output before

-- in a tick after one of a run a confirmation came
abbrev pub is_confirmed_in : List ℕ → List ℕ → Bool
is_confirmed_in run ticks = list_any (λ first. list_any (nat_lt first) ticks) run

-- the run has lasted for so many ticks
abbrev pub has_lasted : ℕ → List ℕ → Bool
has_lasted limit [] = false
has_lasted limit (latest ∷ run) = list_any (λ first. nat_le (first + limit) latest) (latest ∷ run)

module _ (site : Site) (facts : ℕ → List Moment → Facts) (kept : Retained) (done : List Done) where
  -- the output was confirmed while it was on, and has been on since
  abbrev pub is_confirmed_out : ℕ → List Moment → Bool
  is_confirmed_out output moments =
      is_confirmed_in (on_run site facts kept done output moments) (confirmations output moments)
