-- The rows of a record's lines: which first word, number of fields and fixed words each has, and the form of
-- codes and seats.
use Rattle.std.specs.Prelude.{◌==◌, ◌&&◌, ◌||◌, ℕ, Bool, false, nat_le, List, [], ◌∷◌, codes, bytes_eq, Option, Some}
use Rattle.std.specs.Prelude.{None, option_map, is_some, if◌then◌else◌}
use Rattle.std.specs.Option.{option_and_then}
use Rattle.site_types.specs.Names.{is_code}
use Rattle.site_types.specs.declared.operation.Operation.TheVariants.{Mute, Override, Silence, Resound, Reset, Delays}
use Rattle.site_types.specs.declared.operation.Operation.TheVariants.{Clear}
use Rattle.line_fields.specs.Words.{truth_of, value_beside}
use Rattle.line_fields.specs.Fields.{field_count, space_count, each_field}
use Rattle.site_types.specs.Fields.{after_space, field}
use Rattle.record_lines.specs.Words.{point_state_of, piece_state_of, supply_kind_of, is_bad_of, is_up_of}
use Rattle.record_lines.specs.Words.{kind_of, task_of}
use Rattle.record_lines.specs.declared.form.EventForm.{EventForm}
use Rattle.record_lines.specs.declared.form.EventForm.TheVariants.{Point, Cable, Supply, Link, Routing, Op}
use Rattle.record_lines.specs.declared.form.Kind.{Kind}
use Rattle.record_lines.specs.declared.form.Action.{Action}
use Rattle.record_lines.specs.declared.form.Action.TheVariants.{Plain, Cancel, Test, Untest, Disable, Enable}

-- ---- operations

-- a code, or `-` for none
abbrev pub is_code_field : List ℕ → Bool
is_code_field text = bytes_eq text (codes "-") || is_code text

-- one word alone
abbrev pub plain_actions : List (List ℕ × Action)
plain_actions =
    (codes "mute", Plain Mute) ∷ (codes "override", Plain Override) ∷ (codes "silence", Plain Silence)
    ∷ (codes "resound", Plain Resound) ∷ (codes "reset", Plain Reset) ∷ (codes "clear", Plain Clear) ∷ []

-- a word with a zone's name
abbrev pub zone_actions : List (List ℕ × Action)
zone_actions = (codes "cancel", Cancel) ∷ (codes "test", Test) ∷ (codes "untest", Untest) ∷ []

-- a word with a kind of thing and a name
abbrev pub kind_actions : Kind → List (List ℕ × Action)
kind_actions kind = (codes "disable", Disable kind) ∷ (codes "enable", Enable kind) ∷ []

abbrev pub plain_action_of : List ℕ → Option Action
plain_action_of word = value_beside word plain_actions

-- `delays` with `on` or `off`, or a word with a zone's name
abbrev pub zone_action_of : List ℕ → List ℕ → Option Action
zone_action_of word next =
    if bytes_eq word (codes "delays") then option_map (λ on. Plain (Delays on)) (truth_of next) else
    value_beside word zone_actions

abbrev pub named_action_of : List ℕ → List ℕ → Option Action
named_action_of word kind = option_and_then (λ k. value_beside word (kind_actions k)) (kind_of kind)

-- what an operation line asks for, by its fields from the fourth on
abbrev pub action_of : List ℕ → Option Action
action_of text =
    if field_count text == 4 then plain_action_of (field 3 text) else
    (if field_count text == 5 then zone_action_of (field 3 text) (field 4 text) else
    (if field_count text == 6 then named_action_of (field 3 text) (field 4 text) else None))

-- ---- seats

-- `k` alone, or another letter of a task with anything behind it
abbrev pub is_seat : List ℕ → Bool
is_seat [] = false
is_seat (letter ∷ number) = bytes_eq (letter ∷ number) (codes "k") || is_some (task_of letter)

-- ---- the rows

-- the row of a line, with what its fixed words say
pub data Form : Type 0 where
  TickForm : Form
  OfEvent : EventForm → Form
  OrderForm : Form
  EndForm : Form

abbrev pub tick_form : List ℕ → Option Form
tick_form text = if field_count text == 2 then Some TickForm else None

abbrev pub point_form : List ℕ → Option EventForm
point_form text =
    if field_count text == 3 then option_map (λ state. Point state) (point_state_of (field 2 text)) else None

abbrev pub cable_form : List ℕ → Option EventForm
cable_form text =
    if field_count text == 5 then option_map (λ state. Cable state) (piece_state_of (field 4 text)) else None

abbrev pub supply_form : List ℕ → Option EventForm
supply_form text =
    if field_count text == 4 then option_and_then
    (λ kind. option_map (λ bad. Supply kind bad) (is_bad_of (field 3 text)))
    (supply_kind_of (field 2 text)) else None

abbrev pub link_form : List ℕ → Option EventForm
link_form text = if field_count text == 3 then option_map (λ up. Link up) (is_up_of (field 2 text)) else None

abbrev pub routing_form : List ℕ → Option EventForm
routing_form text =
    if (field_count text == 3) && bytes_eq (field 2 text) (codes "confirmed") then Some Routing else None

abbrev pub op_form : List ℕ → Option EventForm
op_form text =
    if is_code_field (field 2 text) then option_map (λ action. Op action) (action_of text) else None

-- at least one seat
abbrev pub order_form : List ℕ → Option Form
order_form text =
    if nat_le 2 (field_count text) && each_field is_seat (space_count text) (after_space text) then Some OrderForm
    else None

abbrev pub end_form : List ℕ → Option Form
end_form text = if field_count text == 1 then Some EndForm else None

-- the rows by their first words: of what befalls the site, and of other lines
abbrev pub event_rows : List (List ℕ × (List ℕ → Option EventForm))
event_rows =
    (codes "point", point_form) ∷ (codes "cable", cable_form) ∷ (codes "supply", supply_form)
    ∷ (codes "link", link_form) ∷ (codes "routing", routing_form) ∷ (codes "op", op_form) ∷ []

abbrev pub other_rows : List (List ℕ × (List ℕ → Option Form))
other_rows = (codes "tick", tick_form) ∷ (codes "order", order_form) ∷ (codes "end", end_form) ∷ []

abbrev pub event_form_of : List ℕ → Option EventForm
event_form_of text = option_and_then (λ form. form text) (value_beside (field 0 text) event_rows)

abbrev pub by_row : List ℕ → Option (List ℕ → Option Form) → Option Form
by_row text None = option_map (λ form. OfEvent form) (event_form_of text)
by_row text (Some form) = form text

-- the row of a line
abbrev pub form_of : List ℕ → Option Form
form_of text = by_row text (value_beside (field 0 text) other_rows)
