-- When the fault of a supply is shown, over all reports and turns so far, the newest first.
use Rattle.std.specs.Prelude.{ℕ, zero, suc, ◌-◌, ◌<◌, ◌==◌, Bool, false, List, [], ◌∷◌, if◌then◌else◌, nat_le}
use Rattle.std.specs.List.{list_any}
use Rattle.site_types.specs.Bits.{mask_of}
use Rattle.site_types.specs.declared.supply_kind.SupplyKind.{SupplyKind}
use Rattle.site_types.specs.declared.supply_kind.SupplyKind.TheVariants.{Mains, Standby, Voltage, Charger}
use Rattle.site_types.specs.declared.waits.Waits.{Waits}

-- what befell a monitor: a report that a supply is bad or sound, or a turn in a tick
pub data Call : Type 0 where
  Reported : SupplyKind → Bool → Call
  Turned : ℕ → Call

-- the place of a supply's bit
abbrev pub place_of : SupplyKind → ℕ
place_of Mains = 0
place_of Standby = 1
place_of Voltage = 2
place_of Charger = 3

-- whether a report is on this supply
abbrev pub is_same_kind : SupplyKind → SupplyKind → Bool
is_same_kind kind other = place_of kind == place_of other

-- what was reported last; a supply of which nothing was reported is sound
abbrev pub is_bad : SupplyKind → List Call → Bool
is_bad kind [] = false
is_bad kind (Reported other bad ∷ calls) = if is_same_kind kind other then bad else is_bad kind calls
is_bad kind (Turned tick ∷ calls) = is_bad kind calls

-- the ticks of the present unbroken run of turns at which the supply was bad, the latest first; none where it
-- was sound at the latest turn
abbrev pub bad_turns : SupplyKind → List Call → List ℕ
bad_turns kind [] = []
bad_turns kind (Reported other bad ∷ calls) = bad_turns kind calls
bad_turns kind (Turned tick ∷ calls) = if is_bad kind calls then tick ∷ bad_turns kind calls else []

-- one of these turns lies at least so many ticks back from the latest of them
abbrev pub lasts : ℕ → List ℕ → Bool
lasts wait [] = false
lasts wait (latest ∷ turns) = list_any (λ tick. nat_le wait (latest - tick)) (latest ∷ turns)

-- the wait that the site sets for a supply
abbrev pub wait_of : SupplyKind → Waits → ℕ
wait_of Mains waits = waits.mains
wait_of Standby waits = waits.standby
wait_of Voltage waits = waits.voltage
wait_of Charger waits = waits.charger

-- the fault is shown: the supply was bad at each turn from some turn to the latest one, and these lie at
-- least the wait apart
abbrev pub is_shown : Waits → SupplyKind → List Call → Bool
is_shown waits kind calls = lasts (wait_of kind waits) (bad_turns kind calls)

-- the supply of a bit
abbrev pub kind_at : ℕ → SupplyKind
kind_at zero = Mains
kind_at (suc zero) = Standby
kind_at (suc (suc zero)) = Voltage
kind_at (suc (suc (suc more))) = Charger

-- the faults that are shown, a bit for each of the four supplies
abbrev pub shown_mask : Waits → List Call → ℕ
shown_mask waits calls = mask_of 4 (λ k. is_shown waits (kind_at k) calls)

-- each turn so far was before this tick
abbrev pub AllBefore : ℕ → List Call → Type 0
AllBefore now [] = Unit {0}
AllBefore now (Reported other bad ∷ calls) = AllBefore now calls
AllBefore now (Turned tick ∷ calls) = (tick < now) × AllBefore now calls
