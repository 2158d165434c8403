-- One tick of a drill, step by step.
use Rattle.std.proofs.Common.{◌≡◌, ◌∙◌, ◌+◌, ◌-◌, ◌*◌, ◌^◌, ◌<◌, ◌≤◌, ℕ, suc, Bool, true, false, List, ◌∷◌, length, ap, arith, lit<, refl, subst, sym}
use Rattle.std.specs.Prelude.{reverse}
use Rattle.tick_units.specs.Orders.{IsOrder, canonical_seats}
use Rattle.tick_units.specs.Ticks.{last_tick}
use Rattle.site_types.specs.declared.site.Site.{Site}
use Rattle.site_types.specs.Changes.{nothing_retained}
use Rattle.keep_turn.specs.declared.store.Store.{Store}
use Rattle.keep_turn.specs.declared.store.Store.TheVariants.{Idle, Kept, Failed}
use Rattle.panel_edges.specs.Faults.{Rose}
use Rattle.panel_rules.specs.Moments.{Moment, Began, IsRun, and_events, and_turns, tick_of}
use Rattle.panel_rules.proofs.RecordRuns.{records_are_runs}
use Rattle.panel_core.specs.declared.system.System.{System}
use Rattle.panel_core.specs.Keeping.{KeepsRun, has_failed}
use Rattle.panel_core.specs.Stands.{MayBegin, StandsFor as SystemStands}
use Rattle.drill_record.specs.declared.drawn.Drawn.{Drawn}
use Rattle.drill_record.specs.Records.{drawn_behind, drill_ticks, events_of, order_drawn, word_behind}
use Rattle.drill_record.specs.Stands.{StandsFor as DrawsFor}
use Rattle.retained_journal.specs.declared.journal.Journal.{Journal}
use Rattle.panel_drill.specs.declared.running.Running.{Running}
use Rattle.panel_drill.specs.Running.{HasRunTurns, IsAfter, IsOnDisk, MayTell, MayRunTurns, RunsTurns, drill_moments, most_ticks, order_in}
use Rattle.panel_drill.proofs.Ticks.{drawn_order, event_keeps, event_tick, none_asked, ordered, ticks_run}

-- a disk that never fails lets no turn of Keep fail
pub never_fails : (store : Store) → (store ≡ Failed → Rose 0 0) → has_failed store ≡ false
never_fails Idle cause = refl
never_fails Kept cause = refl
never_fails Failed cause = absurd (let rose = cause refl in omega (arith, rose))

-- the orders that are at hand are those of the definitions
pub order_same : (panels : ℕ) (reversed : Bool) (own : Running) → own.canonical ≡ order_drawn panels false
    → own.reversed ≡ order_drawn panels true → order_in reversed own ≡ order_drawn panels reversed
order_same panels true own canonical backwards = backwards
order_same panels false own canonical backwards = canonical

module _ (site : Site) (seed n : ℕ) where
  abbrev pub before : List Moment
  before = drill_moments site seed n

  abbrev pub began : List Moment
  began = Began ∷ before

  abbrev pub told : Drawn → List Moment
  told drawn = and_events (events_of site drawn.event) began

  pub may_run : IsRun site.panels began
  may_run = records_are_runs site.panels (drill_ticks site seed n) (ordered site seed n)

  pub may_begin : (own : Running) → IsAfter site seed n own → MayBegin own.system
  may_begin own h = record { site = site; kept = nothing_retained; before = before; stands = h.system; run = may_run }

  pub next_tick : (tick : ℕ) → tick ≡ n + 1 → tick ≡ tick_of began
  next_tick tick is = let now = ticks_run site seed n in omega (arith, is, now)

  pub may_tell : (system : System) → SystemStands site nothing_retained began system → MayTell system
  may_tell system stands =
      let none = none_asked site seed n in
      let top : 0 < 2 ^ 64 - 1 = lit< tt in
      record {
        site = site;
        before = began;
        stands = stands;
        few = subst (λ asked. length asked < 2 ^ 64 - 1) (sym none) top;
      }

  turns_run : (drawn : Drawn) (own : Running) → drawn ≡ drawn_behind seed n → order_in drawn.reversed own ≡ order_drawn site.panels drawn.reversed
      → IsRun site.panels (and_turns false (order_in drawn.reversed own) (told drawn))
  turns_run drawn own drew same =
      let all = (records_are_runs site.panels (drill_ticks site seed (suc n)) (ordered site seed (suc n))).0 in
      subst (λ order. IsRun site.panels (and_turns false order (told drawn))) (sym same)
      (subst (λ (d : Drawn). IsRun site.panels (and_turns false (order_drawn site.panels d.reversed) (told d))) (sym drew) all)

  told_tick : (drawn : Drawn) → drawn ≡ drawn_behind seed n → n < most_ticks → tick_of (told drawn) ≤ last_tick
  told_tick drawn drew few =
      let now = ticks_run site seed n in
      let word = event_tick site (word_behind seed (2 * n)) began in
      let same = ap (λ (d : Drawn). tick_of (told d)) drew in
      omega (arith, now, word, same, few)

  told_keeps : (drawn : Drawn) (old : Running) → drawn ≡ drawn_behind seed n → IsAfter site seed n old
      → KeepsRun site nothing_retained (told drawn) old.journal
  told_keeps drawn old drew h =
      subst (λ (d : Drawn). KeepsRun site nothing_retained (told d) old.journal) (sym drew)
      (event_keeps site (word_behind seed (2 * n)) began old.journal (record { keeps = h.keeps.keeps; wide = h.keeps.wide; torn = h.keeps.torn }))

  module _ (old own : Running) (drawn : Drawn) (h : IsAfter site seed n old) (drew : drawn ≡ drawn_behind seed n) (few : n < most_ticks) (journal :
      own.journal ≡ old.journal) (disk : IsOnDisk own.disk own.journal) (canonical : own.canonical ≡ old.canonical) (backwards :
      own.reversed ≡ old.reversed) (stands : SystemStands site nothing_retained (told drawn) own.system) where
    same_order : order_in drawn.reversed own ≡ order_drawn site.panels drawn.reversed
    same_order = order_same site.panels drawn.reversed own (canonical ∙ h.canonical) (backwards ∙ h.reversed)

    keeps : KeepsRun site nothing_retained (told drawn) own.journal
    keeps = subst (KeepsRun site nothing_retained (told drawn)) (sym journal) (told_keeps drawn old drew h)

    pub may_turn : MayRunTurns drawn.reversed own
    may_turn =
        let tried = h.tried in
        let same = ap (λ (j : Journal). j.tried) journal in
        record {
          site = site;
          before = told drawn;
          stands = stands;
          keeps = keeps;
          disk = disk;
          ordered = subst (IsOrder site.panels) (sym same_order) (drawn_order site.panels drawn.reversed);
          run = turns_run drawn own drew same_order;
          canonical = canonical ∙ h.canonical ∙ ap (λ (s : Site). canonical_seats s.panels) (sym stands.same);
          turned = backwards ∙ h.reversed ∙ ap (λ (s : Site). reverse (canonical_seats s.panels)) (sym stands.same);
          few = told_tick drawn drew few;
          tried = omega (arith, tried, same, few);
        }

    -- after its turns one tick more was run
    pub made : (after : Running) → RunsTurns drawn.reversed own after → DrawsFor seed (n + 1) own.drawer → IsAfter site seed (n + 1) after
    made after turns drawer =
        let here = turns.turns site (told drawn) stands keeps (turns_run drawn own drew same_order) (told_tick drawn drew few) in
        let ruled = subst (λ order. HasRunTurns site (and_turns false order (told drawn)) after) same_order here in
        let behind : HasRunTurns site (drill_moments site seed (suc n)) after =
        subst (λ (d : Drawn). HasRunTurns site (and_turns false (order_drawn site.panels d.reversed) (told d)) after) drew ruled in
        let one : suc n ≡ n + 1 = omega arith in
        let all = subst (λ m. HasRunTurns site (drill_moments site seed m) after) one behind in
        let tried = h.tried in
        let more = turns.tried in
        let same = ap (λ (j : Journal). j.tried) journal in
        record {
          system = all.stands;
          keeps = all.keeps;
          disk = turns.disk;
          tried = omega (arith, tried, more, same);
          drawer = ap (λ (r : Running). r.drawer.draws) turns.rest ∙ drawer;
          canonical = ap (λ (r : Running). r.canonical) turns.rest ∙ canonical ∙ h.canonical;
          reversed = ap (λ (r : Running). r.reversed) turns.rest ∙ backwards ∙ h.reversed;
        }
