use Rattle.std.proofs.Common.{◌≡◌, ◌∙◌, ◌<◌, ℕ, Option, Some, None, map, get_or, refl, ap, sym, arith}
use Rattle.std.proofs.lemmas.List.{get_or-map}
use Rattle.std.proofs.lemmas.List.FromFn.{get_or-map-range_with_len}
use Rattle.std.specs.List.{range_with_len}
use Rattle.tick_units.specs.declared.task.Task.{Task}
use Rattle.tick_units.specs.declared.task.Task.TheVariants.{Poll, Decide, Supply, Desk, Hold, Link, Effect, Drive, Keep}
use Rattle.record_lines.specs.Words.{task_of}
use Rattle.record_lines.specs.declared.words.TheConstants.{TASKS}
use Rattle.record_lines.proofs.words.task.Goals as goal

abbrev unless_keep : Task → Option Task
unless_keep Poll = Some Poll
unless_keep Decide = Some Decide
unless_keep Supply = Some Supply
unless_keep Desk = Some Desk
unless_keep Hold = Some Hold
unless_keep Link = Some Link
unless_keep Effect = Some Effect
unless_keep Drive = Some Drive
unless_keep Keep = None

-- the table has the task of each letter
table_is : map unless_keep TASKS ≡ map task_of (range_with_len 0 256)
table_is = refl

read : (letter : ℕ) → letter < 256 → unless_keep (get_or TASKS letter Poll) ≡ task_of letter
read letter small =
    sym (get_or-map unless_keep TASKS letter Poll None small) ∙ ap (λ t. get_or t letter None) table_is
    ∙ get_or-map-range_with_len task_of 0 256 letter letter None small (omega arith)

other : (task : Task) → (task ≡ Keep → ⊥) → Some task ≡ unless_keep task
other Poll is = refl
other Decide is = refl
other Supply is = refl
other Desk is = refl
other Hold is = refl
other Link is = refl
other Effect is = refl
other Drive is = refl
other Keep is = absurd (is refl)

pub returns-in_default : goal.returns-in_default
returns-in_default c = other (get_or TASKS c.args.letter Poll) c.in_default.not-Keep ∙ read c.args.letter (omega arith)
