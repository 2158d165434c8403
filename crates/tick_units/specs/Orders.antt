-- The seats of a site, and which lists of seats are orders of its turns.
use Rattle.std.specs.Prelude.{◌≡◌, ◌+◌, ◌≤◌, ◌==◌, ◌&&◌, ℕ, zero, suc, Bool, not, List, [], ◌∷◌, ◌++◌, length, map}
use Rattle.std.specs.Prelude.{Option, Some, option_map, if◌then◌else◌, All, AllPairs, Contains, IsPermutation, ◌≢◌}
use Rattle.std.specs.List.{find, list_any}
use Rattle.tick_units.specs.declared.task.Task.{Task}
use Rattle.tick_units.specs.declared.task.Task.TheVariants.{Poll, Decide, Supply, Desk, Hold, Link, Effect, Drive, Keep}
use Rattle.tick_units.specs.declared.seat.Seat.{Seat}
use Rattle.tick_units.specs.declared.order_fault.BadOrder.{BadOrder}
use Rattle.tick_units.specs.declared.order_fault.BadOrder.TheVariants.{Repeated, Missing, Strange}

-- a site has 1 to 8 panels
abbrev pub IsPanelCount : ℕ → Type 0
IsPanelCount panels = (1 ≤ panels) × (panels ≤ 8)

abbrev pub seat_of : ℕ → Task → Seat
seat_of panel task = record { panel = panel; task = task }

-- the tasks that each panel has, in canonical order
abbrev pub panel_tasks : List Task
panel_tasks = Poll ∷ Decide ∷ Supply ∷ Desk ∷ Hold ∷ Link ∷ Effect ∷ Drive ∷ []

-- the eight seats of a panel
abbrev pub panel_seats : ℕ → List Seat
panel_seats panel = map (seat_of panel) panel_tasks

-- the seats of panels 1 to n
abbrev pub seats_of_panels : ℕ → List Seat
seats_of_panels zero = []
seats_of_panels (suc n) = seats_of_panels n ++ panel_seats (suc n)

-- the one seat of the whole site
abbrev pub keep_seat : Seat
keep_seat = seat_of 0 Keep

-- all seats of a site of so many panels, in the order of a tick for which none is given
abbrev pub canonical_seats : ℕ → List Seat
canonical_seats panels = seats_of_panels panels ++ keep_seat ∷ []

-- an order has the seats of the site and no others, each once
abbrev pub IsOrder : ℕ → List Seat → Type 0
IsOrder panels seats = IsPermutation (canonical_seats panels) seats

-- the seats are of the site, and none stands twice
pub record IsSound (panels : ℕ) (seats : List Seat) : Type 0 where
  pub known : All (Contains (canonical_seats panels)) seats
  pub once : AllPairs (λ a b. a ≢ b) seats

-- the least bad place, counted from 1, has a seat that is bad behind those earlier
pub record IsBadAt (IsBad : List Seat → Seat → Type 0) (panels : ℕ) (seats : List Seat) (place : ℕ) : Type 0 where
  pub earlier : List Seat
  pub seat : Seat
  pub later : List Seat
  pub splits : seats ≡ earlier ++ seat ∷ later
  pub counted : place ≡ length earlier + 1
  pub sound : IsSound panels earlier
  pub bad : IsBad earlier seat

-- the first seat that isn't one of the site stands at this place, counted from 1, and none before it stands twice
abbrev pub IsStrangeAt : ℕ → List Seat → ℕ → Type 0
IsStrangeAt panels = IsBadAt (λ earlier seat. ¬ Contains (canonical_seats panels) seat) panels

-- the first seat that stands earlier too is at this place, counted from 1, and all before it are of the site
abbrev pub IsRepeatedAt : ℕ → List Seat → ℕ → Type 0
IsRepeatedAt panels = IsBadAt Contains panels

-- no place is bad, and this is the first seat in canonical order that isn't there
pub record IsFirstMissing (panels : ℕ) (seats : List Seat) (seat : Seat) : Type 0 where
  pub earlier : List Seat
  pub later : List Seat
  pub sound : IsSound panels seats
  pub splits : canonical_seats panels ≡ earlier ++ seat ∷ later
  pub there : All (Contains seats) earlier
  pub absent : ¬ Contains seats seat

-- the place of a task in canonical order
abbrev pub task_number : Task → ℕ
task_number Poll = 0
task_number Decide = 1
task_number Supply = 2
task_number Desk = 3
task_number Hold = 4
task_number Link = 5
task_number Effect = 6
task_number Drive = 7
task_number Keep = 8

abbrev pub is_same_seat : Seat → Seat → Bool
is_same_seat a b = (task_number a.task == task_number b.task) && (a.panel == b.panel)

abbrev pub is_among : Seat → List Seat → Bool
is_among seat seats = list_any (is_same_seat seat) seats

-- the first of some seats that isn't among others
abbrev pub first_missing : List Seat → List Seat → Option Seat
first_missing seats others = find (λ seat. not (is_among seat others)) seats

-- the fault of the rest of a list, behind seats that are sound
abbrev pub fault_behind : ℕ → List Seat → List Seat → Option BadOrder
fault_behind panels earlier [] = option_map Missing (first_missing (canonical_seats panels) earlier)
fault_behind panels earlier (seat ∷ later) =
    if not (is_among seat (canonical_seats panels)) then Some (Strange (length earlier + 1)) else
    (if is_among seat earlier then Some (Repeated (length earlier + 1)) else fault_behind panels
    (earlier ++ seat ∷ []) later)

-- why a list of seats isn't an order, read from its first seat on; `None` for an order
abbrev pub order_fault : ℕ → List Seat → Option BadOrder
order_fault panels seats = fault_behind panels [] seats
