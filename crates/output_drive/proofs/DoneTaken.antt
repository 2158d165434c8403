-- What the operations that were done in a tick make of the silence and the delays of a panel as the next tick begins.
use Rattle.std.proofs.Common.{◌≡◌, ◌≢◌, ◌==◌, ◌&&◌, ◌++◌, ℕ, Bool, false, List, [], ◌∷◌, inl, inr, if◌then◌else◌}
use Rattle.std.proofs.Common.{refl, sym, ◌∙◌, ap, subst, arith}
use Rattle.std.specs.Prelude.{not, ◌-◌}
use Rattle.std.proofs.lemmas.Bool.Decides.{eqb_tells}
use Rattle.site_types.specs.declared.operation.Operation.{Operation}
use Rattle.site_types.specs.declared.operation.Operation.TheVariants.{Mute, Override, Silence, Resound, Reset, Cancel}
use Rattle.site_types.specs.declared.operation.Operation.TheVariants.{Disable, Enable, Test, Untest, Delays, Clear}
use Rattle.site_types.specs.declared.retained.Retained.{Retained}
use Rattle.site_types.specs.declared.site.Site.{Site}
use Rattle.site_types.specs.Bits.{has_bit}
use Rattle.site_types.specs.Done.{Done}
use Rattle.site_types.specs.Profile.{routing_of}
use Rattle.sounder_control.specs.Quiet.{Call as SilenceCall}
use Rattle.sounder_control.specs.Stands.{StandsFor as SilenceStands}
use Rattle.output_delays.specs.Overrides.{AllUpTo}
use Rattle.output_delays.specs.Runs.{Call as DelayCall, overrides_of}
use Rattle.output_delays.specs.Stands.{StandsFor as DelaysStand}
use Rattle.routing_outputs.specs.Stands.{StandsFor as RoutingStands}
use Rattle.panel_rules.specs.Moments.{Moment, Began, tick_of}
use Rattle.panel_rules.specs.Markers.{Facts}
use Rattle.panel_rules.proofs.AnswersTell.{eq_true}
use Rattle.panel_rules.proofs.Bools.{both}
use Rattle.operation_desk.specs.declared.done_operation.DoneOperation.{DoneOperation}
use Rattle.operation_desk.specs.Requests.{done_from, with_done}
use Rattle.output_calls.specs.DelayCalls.{and_delaying, delay_calls}
use Rattle.output_calls.specs.DoneCalls.{and_done_in}
use Rattle.output_calls.specs.RoutingCalls.{routing_calls}
use Rattle.output_calls.specs.SilenceCalls.{and_silencing, silence_calls}
use Rattle.output_calls.proofs.DoneNow.{now_not}
use Rattle.output_calls.proofs.OutputMasks.{overrides_over}
use Rattle.output_drive.specs.declared.drive.Drive.{Drive}
use Rattle.output_drive.specs.Changes.{AreEarlier, BeginsTickAfter, TakesOperation}
use Rattle.output_drive.specs.Stands.{DrivesFor}

-- other operations befall nothing here
pub takes_nothing : (drive : Drive) (operation : Operation) (tick : ℕ) → operation ≢ Silence → operation ≢ Resound → operation ≢ Override
    → ((active : Bool) → operation ≢ Delays active) → TakesOperation drive operation tick drive
takes_nothing drive operation tick silence resound override delays = go operation silence resound override delays
  where
    nothing : (other : Operation) → ((calls : List SilenceCall) → and_silencing other calls ≡ calls)
        → ((calls : List DelayCall) → and_delaying tick other calls ≡ calls) → TakesOperation drive other tick drive
    nothing other silent undelayed = record {
      silence = λ calls h. subst (λ (made : List SilenceCall). SilenceStands made drive.silence) (sym (silent calls)) h;
      delays = λ site panel active calls h up. subst (λ (made : List DelayCall). DelaysStand site panel active made drive.delays) (sym (undelayed calls)) h;
      routing = refl;
      on = refl;
      sounders = refl;
    }

    go : (other : Operation) → other ≢ Silence → other ≢ Resound → other ≢ Override → ((active : Bool) → other ≢ Delays active)
        → TakesOperation drive other tick drive
    go Silence a b c d = absurd (a refl)
    go Resound a b c d = absurd (b refl)
    go Override a b c d = absurd (c refl)
    go (Delays active) a b c d = absurd (d active refl)
    go Mute a b c d = nothing Mute (λ calls. refl) (λ calls. refl)
    go Reset a b c d = nothing Reset (λ calls. refl) (λ calls. refl)
    go (Cancel zone) a b c d = nothing (Cancel zone) (λ calls. refl) (λ calls. refl)
    go (Disable item) a b c d = nothing (Disable item) (λ calls. refl) (λ calls. refl)
    go (Enable item) a b c d = nothing (Enable item) (λ calls. refl) (λ calls. refl)
    go (Test zone) a b c d = nothing (Test zone) (λ calls. refl) (λ calls. refl)
    go (Untest zone) a b c d = nothing (Untest zone) (λ calls. refl) (λ calls. refl)
    go Clear a b c d = nothing Clear (λ calls. refl) (λ calls. refl)

-- an override of a tick isn't after it
over_one : (tick : ℕ) (operation : Operation) (calls : List DelayCall) → AllUpTo tick (overrides_of calls)
    → AllUpTo tick (overrides_of (and_delaying tick operation calls))
over_one tick Override calls h = (omega arith, h)
over_one tick Mute calls h = h
over_one tick Silence calls h = h
over_one tick Resound calls h = h
over_one tick Reset calls h = h
over_one tick (Cancel zone) calls h = h
over_one tick (Disable item) calls h = h
over_one tick (Enable item) calls h = h
over_one tick (Test zone) calls h = h
over_one tick (Untest zone) calls h = h
over_one tick (Delays active) calls h = h
over_one tick Clear calls h = h

with_last : (tick : ℕ) (xs : List DoneOperation) (d : DoneOperation) (older : List Done)
    → with_done tick (xs ++ d ∷ []) older ≡ done_from tick d ∷ with_done tick xs older
with_last tick [] d older = refl
with_last tick (x ∷ xs) d older = with_last tick xs d (done_from tick x ∷ older)

module _ (panel tick : ℕ) where
  module _ {C : Type 0} (adds : Operation → List C → List C) where
    -- what was done in earlier ticks tells nothing
    pub none_earlier : (older : List Done) (calls : List C) → AreEarlier tick older → and_done_in adds panel tick older calls ≡ calls
    none_earlier [] calls earlier = refl
    none_earlier (d ∷ older) calls earlier = now_not adds panel tick d older calls apart ∙ none_earlier older calls earlier.1
      where
        apart : (d.tick == tick) ≡ false
        apart = elim (eqb_tells d.tick tick) [ inl t ↦ (let is = t.1 in let less = earlier.0 in absurd (omega (arith, is, less))) | inr t ↦ t.0 ]

    -- one operation more, of the panel and of another
    own_more : (xs : List DoneOperation) (d : DoneOperation) (older : List Done) (calls : List C) → d.panel ≡ panel
        → and_done_in adds panel tick (with_done tick (xs ++ d ∷ []) older) calls
        ≡ adds d.operation (and_done_in adds panel tick (with_done tick xs older) calls)
    own_more xs d older calls own =
        ap (λ (ds : List Done). and_done_in adds panel tick ds calls) (with_last tick xs d older)
        ∙ ap (λ b. if b then adds d.operation (and_done_in adds panel tick (with_done tick xs older) calls)
        else and_done_in adds panel tick (with_done tick xs older) calls)
        (both (d.panel == panel) (tick == tick) (eq_true d.panel panel own) (eq_true tick tick refl))

    other_more : (xs : List DoneOperation) (d : DoneOperation) (older : List Done) (calls : List C) → d.panel ≢ panel
        → and_done_in adds panel tick (with_done tick (xs ++ d ∷ []) older) calls ≡ and_done_in adds panel tick (with_done tick xs older) calls
    other_more xs d older calls apart =
        ap (λ (ds : List Done). and_done_in adds panel tick ds calls) (with_last tick xs d older)
        ∙ ap (λ b. if b && (tick == tick) then adds d.operation (and_done_in adds panel tick (with_done tick xs older) calls)
        else and_done_in adds panel tick (with_done tick xs older) calls) is
      where
        is : (d.panel == panel) ≡ false
        is = elim (eqb_tells d.panel panel) [ inl t ↦ absurd (apart t.1) | inr t ↦ t.0 ]

  -- so many of those that were done in the tick befell the silence and the delays of the panel
  pub record HasTaken (old : Drive) (xs : List DoneOperation) (drive : Drive) : Type 0 where
    pub silence : (older : List Done) (calls : List SilenceCall) → AreEarlier tick older → SilenceStands calls old.silence
        → SilenceStands (and_done_in and_silencing panel tick (with_done tick xs older) calls) drive.silence
    pub delays : (older : List Done) (site : Site) (active : Bool) (calls : List DelayCall) → AreEarlier tick older
        → DelaysStand site panel active calls old.delays → AllUpTo tick (overrides_of calls)
        → DelaysStand site panel active (and_done_in (and_delaying tick) panel tick (with_done tick xs older) calls) drive.delays
    pub over : (older : List Done) (calls : List DelayCall) → AreEarlier tick older → AllUpTo tick (overrides_of calls)
        → AllUpTo tick (overrides_of (and_done_in (and_delaying tick) panel tick (with_done tick xs older) calls))
    pub routing : drive.routing ≡ old.routing
    pub on : drive.on ≡ old.on
    pub sounders : drive.sounders ≡ old.sounders

  pub taken_none : (old : Drive) → HasTaken old [] old
  taken_none old = record {
    silence = λ older calls earlier h.
        subst (λ (made : List SilenceCall). SilenceStands made old.silence) (sym (none_earlier and_silencing older calls earlier)) h;
    delays = λ older site active calls earlier h up.
        subst (λ (made : List DelayCall). DelaysStand site panel active made old.delays) (sym (none_earlier (and_delaying tick) older calls earlier)) h;
    over = λ older calls earlier up.
        subst (λ (made : List DelayCall). AllUpTo tick (overrides_of made)) (sym (none_earlier (and_delaying tick) older calls earlier)) up;
    routing = refl;
    on = refl;
    sounders = refl;
  }

  module _ (old mid drive : Drive) (xs : List DoneOperation) (d : DoneOperation) (h : HasTaken old xs mid) where
    pub taken_own : d.panel ≡ panel → TakesOperation mid d.operation tick drive → HasTaken old (xs ++ d ∷ []) drive
    taken_own own takes = record {
      silence = λ older calls earlier stands.
          subst (λ (made : List SilenceCall). SilenceStands made drive.silence) (sym (own_more and_silencing xs d older calls own))
          (takes.silence (and_done_in and_silencing panel tick (with_done tick xs older) calls) (h.silence older calls earlier stands));
      delays = λ older site active calls earlier stands up.
          subst (λ (made : List DelayCall). DelaysStand site panel active made drive.delays) (sym (own_more (and_delaying tick) xs d older calls own))
          (takes.delays site panel active (and_done_in (and_delaying tick) panel tick (with_done tick xs older) calls)
          (h.delays older site active calls earlier stands up) (h.over older calls earlier up));
      over = λ older calls earlier up.
          subst (λ (made : List DelayCall). AllUpTo tick (overrides_of made)) (sym (own_more (and_delaying tick) xs d older calls own))
          (over_one tick d.operation (and_done_in (and_delaying tick) panel tick (with_done tick xs older) calls) (h.over older calls earlier up));
      routing = takes.routing ∙ h.routing;
      on = takes.on ∙ h.on;
      sounders = takes.sounders ∙ h.sounders;
    }

    pub taken_other : d.panel ≢ panel → HasTaken old (xs ++ d ∷ []) mid
    taken_other apart = record {
      silence = λ older calls earlier stands.
          subst (λ (made : List SilenceCall). SilenceStands made mid.silence) (sym (other_more and_silencing xs d older calls apart))
          (h.silence older calls earlier stands);
      delays = λ older site active calls earlier stands up.
          subst (λ (made : List DelayCall). DelaysStand site panel active made mid.delays) (sym (other_more (and_delaying tick) xs d older calls apart))
          (h.delays older site active calls earlier stands up);
      over = λ older calls earlier up.
          subst (λ (made : List DelayCall). AllUpTo tick (overrides_of made)) (sym (other_more (and_delaying tick) xs d older calls apart))
          (h.over older calls earlier up);
      routing = h.routing;
      on = h.on;
      sounders = h.sounders;
    }

  -- all of them did
  pub begun : (old drive : Drive) (ds : List DoneOperation) → HasTaken old ds drive → BeginsTickAfter old panel tick ds drive
  begun old drive ds taken site facts kept older before h earlier is =
      let done = with_done tick ds older in
      let up = subst (λ t. AllUpTo t (overrides_of (delay_calls site facts done panel before))) (sym is) (overrides_over site facts done panel before) in
      record {
        silence =
            subst (λ t. SilenceStands (and_done_in and_silencing panel t (with_done tick ds older) (silence_calls site facts (with_done tick ds older) panel before))
            drive.silence) is (taken.silence older (silence_calls site facts done panel before) earlier h.silence);
        delays =
            subst (λ t. DelaysStand site panel (not (has_bit kept.delays_off (panel - 1)))
            (and_done_in (and_delaying t) panel t (with_done tick ds older) (delay_calls site facts (with_done tick ds older) panel before)) drive.delays) is
            (taken.delays older site (not (has_bit kept.delays_off (panel - 1))) (delay_calls site facts done panel before) earlier h.delays up);
        routing =
            subst (λ routing. RoutingStands site panel (routing_of site.format) (routing_calls site facts kept done panel before) routing)
            (sym taken.routing) h.routing;
        on = taken.on ∙ h.on;
        sounders = taken.sounders ∙ h.sounders;
      }

-- a tick that begins where nothing was done in the one that ended
pub after_began : (site : Site) (facts : ℕ → List Moment → Facts) (kept : Retained) (done : List Done) (panel : ℕ) (before : List Moment) (drive : Drive)
    → DrivesFor site facts kept done panel before drive → AreEarlier (tick_of before) done → DrivesFor site facts kept done panel (Began ∷ before) drive
after_began site facts kept done panel before drive h earlier =
    begun panel (tick_of before) drive drive [] (taken_none panel (tick_of before) drive) site facts kept done before h earlier refl
