-- Turns in reversed order: Keep's, and then panel by panel from the last to the first, each panel's last task first.
use Rattle.std.proofs.Common.{◌≡◌, ◌≢◌, ◌∙◌, ◌+◌, ◌-◌, ◌*◌, ◌<◌, ◌++◌, ℕ, zero, suc, List, [], ◌∷◌, false, length, drop}
use Rattle.std.proofs.Common.{refl, sym, ap, subst, arith, append_assoc, append-nil}
use Rattle.std.specs.Prelude.{reverse}
use Rattle.std.proofs.lemmas.List.{length-reverse, reverse-append, take_all}
use Rattle.std.proofs.lemmas.Option.{slice_get_within}
use Rattle.tick_units.specs.declared.seat.Seat.{Seat}
use Rattle.tick_units.specs.declared.task.Task.TheVariants.{Keep}
use Rattle.tick_units.specs.Orders.{canonical_seats, keep_seat, panel_seats, panel_tasks, seats_of_panels}
use Rattle.tick_units.proofs.Canonical.{length-canonical_seats}
use Rattle.site_types.specs.declared.site.Site.{Site}
use Rattle.panel_rules.specs.Moments.{IsRun, and_turns}
use Rattle.panel_rules.proofs.RecordRuns.{turns-append}
use Rattle.panel_core.specs.declared.order_form.OrderForm.{OrderForm}
use Rattle.panel_core.specs.declared.order_form.OrderForm.TheVariants.{Canonical, Reversed}
use Rattle.panel_core.specs.declared.system.System.{System}
use Rattle.panel_core.specs.Changes.{AreOfPanels, MakesTurns, MakesTurnsFrom, seats_between}
use Rattle.panel_core.specs.Marks.{MarksTurns}
use Rattle.panel_core.specs.OrderForms.{HasForm}
use Rattle.panel_core.specs.Stands.{MayTurnFrom, MayTurnTasks}
use Rattle.panel_core.specs.StepCounts.{CountsTurns}
use Rattle.panel_core.proofs.InLine.{HaveTurned, both_turned, each_both, none_turned}
use Rattle.panel_core.proofs.Orders.{before_turns, turns_tick}

pub is_canonical : (form : OrderForm) (panels : ℕ) (order : List Seat) → form ≡ Canonical → HasForm form panels order → order ≡ canonical_seats panels
is_canonical form panels order is has = subst (λ f. HasForm f panels order) is has

pub is_reversed : (form : OrderForm) (panels : ℕ) (order : List Seat) → form ≡ Reversed → HasForm form panels order → order ≡ reverse (canonical_seats panels)
is_reversed form panels order is has = subst (λ f. HasForm f panels order) is has

-- the seats of panels from n down to 1, the last of each first
abbrev pub seats_back : ℕ → List Seat
seats_back zero = []
seats_back (suc n) = reverse (panel_seats (suc n)) ++ seats_back n

reversed_panels : (n : ℕ) → reverse (seats_of_panels n) ≡ seats_back n
reversed_panels zero = refl
reversed_panels (suc n) =
    reverse-append (seats_of_panels n) (panel_seats (suc n)) ∙ ap (λ xs. reverse (panel_seats (suc n)) ++ xs) (reversed_panels n)

reversed_is : (panels : ℕ) → reverse (canonical_seats panels) ≡ keep_seat ∷ seats_back panels
reversed_is panels =
    reverse-append (seats_of_panels panels) (keep_seat ∷ []) ∙ ap (λ xs. keep_seat ∷ xs) (reversed_panels panels)

-- those of the panels from the last down to the one above this had their turns
pub record HaveTurnedTo (left panels : ℕ) (old : System) (earlier : ℕ) (system : System) (later : ℕ) : Type 0 where
  pub gone : List Seat
  pub parted : seats_back panels ≡ gone ++ seats_back left
  pub turned : HaveTurned old earlier gone system later

pub none_yet : (panels : ℕ) (system : System) (steps : ℕ) → HaveTurnedTo (panels - 0) panels system steps system steps
none_yet panels system steps =
    let all : panels ≡ panels - 0 = omega arith in
    record { gone = []; parted = ap seats_back all; turned = none_turned system steps }

-- once the last panels had their turns, the one before them may have its own
next_back : (n : ℕ) (old system : System) (a b : ℕ) → n < old.site.panels → MayTurnFrom (reverse (canonical_seats old.site.panels)) 1 old
    → HaveTurnedTo (suc n) old.site.panels old a system b → MayTurnTasks (suc n) (reverse panel_tasks) system
next_back n old system a b less r to =
    let so_far = and_turns false to.gone r.before in
    let all = subst (λ order. IsRun r.site.panels (and_turns false (drop 1 order) r.before)) (reversed_is old.site.panels) r.run in
    let here = reverse (panel_seats (suc n)) in
    let rest =
    subst (IsRun r.site.panels) (ap (λ xs. and_turns false xs r.before) to.parted ∙ turns-append false to.gone (here ++ seats_back n) r.before
    ∙ turns-append false here (seats_back n) so_far) all in
    let next = before_turns r.site.panels false (seats_back n) (and_turns false here so_far) rest in
    let same = ap (λ (s : Site). s.panels) r.stands.same in
    record {
      site = r.site;
      kept = r.kept;
      before = so_far;
      stands = to.turned.turns r.site r.kept r.before r.stands (before_turns r.site.panels false here so_far next);
      member = (omega arith, omega (arith, less, same));
      run = next;
      few = rw (turns_tick false to.gone r.before) r.few;
    }

one_back : (n panels : ℕ) (old mid system : System) (a b c : ℕ) → HaveTurnedTo (suc n) panels old a mid b
    → HaveTurned mid b (reverse (panel_seats (suc n))) system c → HaveTurnedTo n panels old a system c
one_back n panels old mid system a b c to turned =
    let here = reverse (panel_seats (suc n)) in
    record {
      gone = to.gone ++ here;
      parted = to.parted ∙ sym (append_assoc to.gone here (seats_back n));
      turned = both_turned old mid system to.gone here a b c to.turned turned;
    }

-- by how many panels had their turns
pub next_panel_back : (done : ℕ) (old system : System) (a b : ℕ) → done < old.site.panels
    → MayTurnFrom (reverse (canonical_seats old.site.panels)) 1 old → HaveTurnedTo (old.site.panels - done) old.site.panels old a system b
    → MayTurnTasks (old.site.panels - done) (reverse panel_tasks) system
next_panel_back done old system a b less r to =
    let n = old.site.panels - (done + 1) in
    let is : suc n ≡ old.site.panels - done = omega (arith, less) in
    subst (λ k. MayTurnTasks k (reverse panel_tasks) system) is
    (next_back n old system a b (omega (arith, less)) r
    (subst (λ k. HaveTurnedTo k old.site.panels old a system b) (sym is) to))

pub panel_turned_back : (done panels : ℕ) (old mid system : System) (a b c : ℕ) → done < panels → HaveTurnedTo (panels - done) panels old a mid b
    → HaveTurned mid b (reverse (panel_seats (panels - done))) system c → HaveTurnedTo (panels - (done + 1)) panels old a system c
panel_turned_back done panels old mid system a b c less to turned =
    let n = panels - (done + 1) in
    let is : suc n ≡ panels - done = omega (arith, less) in
    one_back n panels old mid system a b c (subst (λ k. HaveTurnedTo k panels old a mid b) (sym is) to)
    (subst (λ k. HaveTurned mid b (reverse (panel_seats k)) system c) (sym is) turned)

-- ---- all panels

are_of_panels_back : (n : ℕ) → AreOfPanels (seats_back n)
are_of_panels_back zero = tt
are_of_panels_back (suc n) =
    each_both (λ (s : Seat). s.task ≢ Keep) (reverse (panel_seats (suc n))) (seats_back n)
    (λ e. cc, (λ e. cc, (λ e. cc, (λ e. cc, (λ e. cc, (λ e. cc, (λ e. cc, (λ e. cc, tt)))))))) (are_of_panels_back n)

length_is : (panels : ℕ) → length (reverse (canonical_seats panels)) ≡ 8 * panels + 1
length_is panels = length-reverse (canonical_seats panels) ∙ length-canonical_seats panels

-- the seats behind Keep's, which is the first
panels_behind : (panels : ℕ) → seats_between 1 (8 * panels + 1) (reverse (canonical_seats panels)) ≡ seats_back panels
panels_behind panels =
    let count = length_is panels in
    ap (drop 1) (take_all (8 * panels + 1) (reverse (canonical_seats panels)) (omega (arith, count))) ∙ ap (drop 1) (reversed_is panels)

module _ (panels left : ℕ) (none : left ≡ 0) (old system : System) (a b : ℕ) (to : HaveTurnedTo left panels old a system b) where
  all_turned : HaveTurned old a (seats_back panels) system b
  all_turned =
      subst (λ xs. HaveTurned old a xs system b)
      (sym (to.parted ∙ ap (λ k. to.gone ++ seats_back k) none ∙ append-nil to.gone)) to.turned

  pub reversed_made : MakesTurnsFrom old (reverse (canonical_seats panels)) 1 (8 * panels + 1) system
  reversed_made =
      let count = length_is panels in
      record {
        since = λ _. omega arith;
        within = omega (arith, count);
        panels = subst AreOfPanels (sym (panels_behind panels)) (are_of_panels_back panels);
        keep = λ seat is. (
            let within = slice_get_within (reverse (canonical_seats panels)) (8 * panels + 1) seat is in
            absurd (omega (arith, within, count)));
        turns = subst (λ xs. MakesTurns old xs system) (sym (panels_behind panels)) all_turned.turns;
      }

  pub reversed_marked : MarksTurns old (seats_between 1 (8 * panels + 1) (reverse (canonical_seats panels))) system.changed
  reversed_marked = subst (λ xs. MarksTurns old xs system.changed) (sym (panels_behind panels)) all_turned.marks

  pub reversed_counted : CountsTurns old (seats_between 1 (8 * panels + 1) (reverse (canonical_seats panels))) a b
  reversed_counted = subst (λ xs. CountsTurns old xs a b) (sym (panels_behind panels)) all_turned.steps
