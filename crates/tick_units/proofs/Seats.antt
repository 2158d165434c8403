-- Seats are told apart by their tasks and panels.
use Rattle.std.proofs.Common.{◌≡◌, ◌==◌, ◌&&◌, ◌||◌, true, List, [], ◌∷◌, refl, sym, ◌∙◌, ap}
use Rattle.std.specs.Bool.{Decides}
use Rattle.std.specs.Cmp.{IsEquivalence}
use Rattle.std.specs.List.{Contains, list_any}
use Rattle.std.proofs.lemmas.Bool.{and_parts, eqb-true, eq-eqb, and_from}
use Rattle.std.proofs.lemmas.Bool.Decides.{same_from_decides}
use Rattle.std.proofs.lemmas.Map.Made.{is_member-Decides}
use Rattle.std.proofs.Math.Bool.{and_comm}
use denote.Enum.Bare.{same_true}
use denote.Enum.Declared.{tag_of}
use Rattle.tick_units.specs.contracts.task.Task.{the_type}
use Rattle.tick_units.specs.contracts.seat.SeatPartialEq.TheImpl as derived
use Rattle.tick_units.specs.declared.task.Task.{Task}
use Rattle.tick_units.specs.declared.task.Task.TheVariants.{Poll, Decide, Supply, Desk, Hold, Link, Effect, Drive, Keep}
use Rattle.tick_units.specs.declared.seat.Seat.{Seat}
use Rattle.tick_units.specs.Orders.{seat_of, task_number, is_same_seat, is_among}

pub tag_of-task : (a : Task) → tag_of the_type a ≡ task_number a
tag_of-task Poll = refl
tag_of-task Decide = refl
tag_of-task Supply = refl
tag_of-task Desk = refl
tag_of-task Hold = refl
tag_of-task Link = refl
tag_of-task Effect = refl
tag_of-task Drive = refl
tag_of-task Keep = refl

same_task : (a b : Task) → (task_number a == task_number b) ≡ true → a ≡ b
same_task a b e = same_true the_type tt a b (rw (tag_of-task a, tag_of-task b) e)

pub same_seat : (a b : Seat) → a.task ≡ b.task → a.panel ≡ b.panel → a ≡ b
same_seat a b t p = ap (λ n. seat_of n a.task) p ∙ ap (seat_of b.panel) t

found_same : (a b : Seat) → is_same_seat a b ≡ true → a ≡ b
found_same a b e =
    let parts = and_parts (task_number a.task == task_number b.task) (a.panel == b.panel) e in
    same_seat a b (same_task a.task b.task parts.0) (eqb-true a.panel b.panel parts.1)

same_found : (a b : Seat) → a ≡ b → is_same_seat a b ≡ true
same_found a b e =
    and_from (task_number a.task == task_number b.task) (a.panel == b.panel)
    (eq-eqb (task_number a.task) (task_number b.task) (ap (λ (s : Seat). task_number s.task) e))
    (eq-eqb a.panel b.panel (ap (λ (s : Seat). s.panel) e))

pub is_same_seat-Decides : (a b : Seat) → Decides (is_same_seat a b) (a ≡ b)
is_same_seat-Decides a b = (found_same a b, same_found a b)

pub is_same_seat-comm : (a b : Seat) → is_same_seat a b ≡ is_same_seat b a
is_same_seat-comm a b =
    same_from_decides (is_same_seat a b) (is_same_seat b a) (is_same_seat-Decides a b) (λ e. sym (found_same b a e), λ e. same_found b a (sym e))

pub seats_equivalence : IsEquivalence is_same_seat
seats_equivalence =
    record {
      refl = λ a. same_found a a refl;
      symm = is_same_seat-comm;
      congr = λ a b c e. ap (λ (s : Seat). is_same_seat s c) (found_same a b e);
    }

pub is_among-Decides : (seat : Seat) (seats : List Seat) → Decides (is_among seat seats) (Contains seats seat)
is_among-Decides seat seats = is_member-Decides is_same_seat-Decides seats seat

-- the `==` of the code is the one of the definitions
derived-is_same_seat : (a b : Seat) → derived.ghosts.eq a b ≡ is_same_seat b a
derived-is_same_seat a b =
    let t : ((task_number a.task == task_number b.task) && (a.panel == b.panel)) ≡ is_same_seat b a = is_same_seat-comm a b in
    rw (tag_of-task a.task, tag_of-task b.task) (and_comm (a.panel == b.panel) (task_number a.task == task_number b.task) ∙ t)

pub contains-is_among : (seat : Seat) (seats : List Seat) → list_any (λ y. derived.ghosts.eq y seat) seats ≡ is_among seat seats
contains-is_among seat [] = refl
contains-is_among seat (x ∷ xs) =
    ap (λ b. b || list_any (λ y. derived.ghosts.eq y seat) xs) (derived-is_same_seat x seat)
    ∙ ap (λ b. is_same_seat seat x || b) (contains-is_among seat xs)
