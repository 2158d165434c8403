-- Entries into the fire alarm condition, and the turns of Keep that count them.
use Rattle.std.proofs.Common.{◌≡◌, ◌+◌, ◌==◌, ◌&&◌, ℕ, Bool, true, false, List, [], ◌∷◌, length, refl, arith, if◌then◌else◌}
use Rattle.tick_units.specs.declared.task.Task.TheVariants.{Poll, Decide, Supply, Desk, Hold, Link, Effect, Drive, Keep}
use Rattle.panel_rules.specs.Moments.{Began, Happened, Turned, Kept, tick_of}
use Rattle.panel_rules.specs.Batches.{enters, entries, new_entries}
use Rattle.panel_laws.specs.TimelineLaws.{EntriesAreCountedOnce, counted_entries}

one_more : (b : Bool) (tick counted : ℕ) (all fresh : List ℕ) → length all ≡ counted + length fresh
    → length (if b then tick ∷ all else all) ≡ counted + length (if b then tick ∷ fresh else fresh)
one_more true tick counted all fresh ih = omega (arith, ih)
one_more false tick counted all fresh ih = ih

all_counted : (b : Bool) (counted : ℕ) (all fresh : List ℕ) → length all ≡ counted + length fresh
    → length all ≡ (if b then counted else counted + length fresh) + length (if b then fresh else [])
all_counted true counted all fresh ih = ih
all_counted false counted all fresh ih = omega (arith, ih)

pub counted_once : EntriesAreCountedOnce
counted_once site kept done panel [] = refl
counted_once site kept done panel (Began ∷ before) = counted_once site kept done panel before
counted_once site kept done panel (Happened event ∷ before) = counted_once site kept done panel before
counted_once site kept done panel (Turned other Hold ∷ before) =
    one_more ((other == panel) && enters site kept done panel before) (tick_of before) (counted_entries site kept done panel before)
    (entries site kept done panel before)
    (new_entries site kept done panel before) (counted_once site kept done panel before)
counted_once site kept done panel (Turned other Poll ∷ before) = counted_once site kept done panel before
counted_once site kept done panel (Turned other Decide ∷ before) = counted_once site kept done panel before
counted_once site kept done panel (Turned other Supply ∷ before) = counted_once site kept done panel before
counted_once site kept done panel (Turned other Desk ∷ before) = counted_once site kept done panel before
counted_once site kept done panel (Turned other Link ∷ before) = counted_once site kept done panel before
counted_once site kept done panel (Turned other Effect ∷ before) = counted_once site kept done panel before
counted_once site kept done panel (Turned other Drive ∷ before) = counted_once site kept done panel before
counted_once site kept done panel (Turned other Keep ∷ before) = counted_once site kept done panel before
counted_once site kept done panel (Kept failed ∷ before) =
    all_counted failed (counted_entries site kept done panel before) (entries site kept done panel before) (new_entries site kept done panel before)
    (counted_once site kept done panel before)
