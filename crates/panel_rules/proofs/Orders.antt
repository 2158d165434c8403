-- Ticks whose turns go by an order of the site's seats make a run.
use Rattle.std.proofs.Common.{◌≡◌, ◌≢◌, ℕ, ◌==◌, ◌&&◌, ◌||◌, List, [], ◌∷◌, inl, inr, Bool, true, false, if◌then◌else◌, refl, sym, ◌∙◌, ap}
use Rattle.std.specs.List.{list_any}
use Rattle.std.proofs.lemmas.Bool.Decides.{eqb_tells}
use Rattle.tick_units.specs.declared.seat.Seat.{Seat}
use Rattle.tick_units.specs.declared.task.Task.{Task}
use Rattle.tick_units.specs.declared.task.Task.TheVariants.{Keep}
use Rattle.tick_units.specs.Orders.{task_number, is_same_seat, is_among, seat_of, keep_seat}
use Rattle.panel_rules.specs.Moments.{Moment, Turned, and_turns, turn_of, is_turn, has_turned, has_kept, IsPanelTask}

pub not_keep : (task : Task) → IsPanelTask task → task ≢ Keep
not_keep Keep h e = h
not_keep task h e = cc

pub panel_task : (task : Task) → task ≢ Keep → IsPanelTask task
panel_task Keep h = h refl
panel_task task h = tt

pub false_by : (b : Bool) → (b ≡ true → ⊥) → b ≡ false
false_by true h = absurd (h refl)
false_by false h = refl

-- a turn of an order makes a seat that is looked for turn, or leaves it as it was
turn_adds : (failed : Bool) (panel : ℕ) (task : Task) (other_panel : ℕ) (other : Task) (before : List Moment) → IsPanelTask task
    → has_turned panel task (turn_of failed other_panel other ∷ before) ≡ (is_same_seat (seat_of panel task) (seat_of other_panel other)
    || has_turned panel task before)
turn_adds failed panel task other_panel Keep before t = ap (λ b. (b && (panel == other_panel)) || has_turned panel task before) (sym (apart task t))
  where
    apart : (task : Task) → IsPanelTask task → (task_number task == 8) ≡ false
    apart Keep h = absurd h
    apart task h = refl
turn_adds failed panel task other_panel other before t = turned panel task other_panel other before
  where
    eq_comm : (a b : ℕ) → (a == b) ≡ (b == a)
    eq_comm a b =
        elim (eqb_tells a b) [
          | inl h ↦ h.0 ∙ sym (elim (eqb_tells b a) [ inl g ↦ g.0 | inr g ↦ absurd (g.1 (sym h.1)) ])
          | inr h ↦ h.0 ∙ sym (elim (eqb_tells b a) [ inl g ↦ absurd (h.1 (sym g.1)) | inr g ↦ g.0 ])
        ]

    by : (b c : Bool) → (if b then true else c) ≡ (b || c)
    by true c = refl
    by false c = refl

    turned : (panel : ℕ) (task : Task) (other_panel : ℕ) (other : Task) (before : List Moment)
        → has_turned panel task (Turned other_panel other ∷ before) ≡ (is_same_seat (seat_of panel task) (seat_of other_panel other)
        || has_turned panel task before)
    turned panel task other_panel other before =
        by (is_turn panel task other_panel other) (has_turned panel task before)
        ∙ ap (λ b. (b && (other_panel == panel)) || has_turned panel task before) (eq_comm (task_number other) (task_number task))
        ∙ ap (λ b. ((task_number task == task_number other) && b) || has_turned panel task before) (eq_comm other_panel panel)

or_on : (a b c : Bool) → (a || (b || c)) ≡ ((b || a) || c)
or_on true true c = refl
or_on true false c = refl
or_on false true c = refl
or_on false false c = refl

-- after turns, a seat has turned exactly where it was among them, or had turned before
pub turned_among : (failed : Bool) (panel : ℕ) (task : Task) (seats : List Seat) (before : List Moment) → IsPanelTask task
    → has_turned panel task (and_turns failed seats before) ≡ (is_among (seat_of panel task) seats || has_turned panel task before)
turned_among failed panel task [] before t = refl
turned_among failed panel task (seat ∷ seats) before t =
    turned_among failed panel task seats (turn_of failed seat.panel seat.task ∷ before) t
    ∙ ap (λ b. is_among (seat_of panel task) seats || b) (turn_adds failed panel task seat.panel seat.task before t)
    ∙ or_on (is_among (seat_of panel task) seats) (is_same_seat (seat_of panel task) seat) (has_turned panel task before)

pub is_keep : Seat → Bool
is_keep seat = task_number seat.task == 8

pub keep_is : (seat : Seat) → is_keep seat ≡ true → (task_number seat.task == 8) ≡ true
unfolding is_keep
keep_is seat h = h

pub keep_itself : is_keep keep_seat ≡ true
unfolding is_keep
keep_itself = refl

keep_adds : (failed : Bool) (panel : ℕ) (task : Task) (before : List Moment)
    → has_kept (turn_of failed panel task ∷ before) ≡ ((task_number task == 8) || has_kept before)
keep_adds failed panel Keep before = refl
keep_adds failed panel task before = refl

pub kept_among : (failed : Bool) (seats : List Seat) (before : List Moment)
    → has_kept (and_turns failed seats before) ≡ (list_any is_keep seats || has_kept before)
unfolding is_keep
kept_among failed [] before = refl
kept_among failed (seat ∷ seats) before =
    kept_among failed seats (turn_of failed seat.panel seat.task ∷ before)
    ∙ ap (λ b. list_any is_keep seats || b) (keep_adds failed seat.panel seat.task before)
    ∙ or_on (list_any is_keep seats) (task_number seat.task == 8) (has_kept before)
