-- When a line is judged to be one, step by step.
use Rattle.std.proofs.Common.{◌≡◌, ◌∙◌, ◌<◌, ◌≤◌, ◌^◌, ℕ, Bool, true, List, Some, None, Ok, Err, is_some, ap, arith}
use Rattle.std.specs.Prelude.{◌==◌, nat_lt, decimal, option_map, if◌then◌else◌}
use Rattle.std.specs.Option.{option_and_then}
use Rattle.std.proofs.lemmas.Bool.{cond-true, eq-eqb, lt-ltb}
use Rattle.site_types.specs.Events.{has_event}
use Rattle.site_types.specs.Numbers.{number_of}
use Rattle.site_types.specs.declared.site.Site.{Site}
use Rattle.site_types.specs.declared.event.Event.{Event}
use Rattle.site_types.proofs.Spelling.{number_of-decimal}
use Rattle.record_lines.specs.Events.{event_of, has_event_numbers, has_numbers}
use Rattle.line_fields.specs.Numbers.{is_number, number_below}
use Rattle.site_types.specs.Fields.{field}
use Rattle.line_fields.specs.Words.{value_beside}
use Rattle.record_lines.specs.Forms.{Form, OfEvent, by_row, event_form_of, form_of, other_rows}
use Rattle.record_lines.specs.Judged.{content_of, event_in, event_line, judged, judged_as, line_view, may_stand}
use Rattle.record_lines.specs.declared.form.EventForm.{EventForm}
use Rattle.record_lines.specs.declared.line.Line.{Line}
use Rattle.record_lines.specs.declared.line.Line.TheVariants.{Event as EventLine}
use Rattle.record_lines.specs.declared.ticks_so_far.TicksSoFar.{TicksSoFar}
use Rattle.record_lines.specs.declared.why.Why.TheVariants.{BadNumber, BeforeFirstTick, NoSuch}
use Rattle.record_lines.proofs.Joins.{IsLineText}

-- a line whose row, turn, numbers and content are right
pub judged_from : (site : Site) (so_far : TicksSoFar) (text : List ℕ) (form : Form) (line : Line) → form_of text ≡ Some form
    → may_stand so_far form ≡ true → has_numbers form text ≡ true →
    content_of site so_far form text ≡ Ok line → judged site so_far text ≡ Ok line
judged_from site so_far text form line row due numbers content =
    let numbered = if has_numbers form text then content_of site so_far form text else Err BadNumber in
    ap (judged_as site so_far text) row ∙ cond-true (may_stand so_far form) numbered (Err BeforeFirstTick) due
    ∙ cond-true (has_numbers form text) (content_of site so_far form text) (Err BadNumber) numbers ∙ content

-- a text whose first word is that of no other row is of an event's
pub of_event : (text word : List ℕ) → field 0 text ≡ word → value_beside word other_rows ≡ None
    → form_of text ≡ option_map (λ form. OfEvent form) (event_form_of text)
of_event text word is none = ap (λ w. by_row text (value_beside w other_rows)) is ∙ ap (by_row text) none

pub judged_event : (site : Site) (so_far : TicksSoFar) (text word : List ℕ) (form : EventForm) (line : Line) → field 0 text ≡ word
    → value_beside word other_rows ≡ None → event_form_of text ≡ Some form → may_stand so_far (OfEvent form) ≡ true
    → has_event_numbers form text ≡ true → event_line site form text ≡ Ok line → judged site so_far text ≡ Ok line
judged_event site so_far text word form line is none row due numbers content =
    judged_from site so_far text (OfEvent form) line (of_event text word is none ∙ ap (option_map (λ form. OfEvent form)) row) due numbers content

-- an event that the site has
pub event_from : (site : Site) (form : EventForm) (text : List ℕ) (event : Event) → event_of site form text ≡ Some event → has_event site event ≡ true
    → event_line site form text ≡ Ok (EventLine event)
event_from site form text event is has = ap (event_in site) is ∙ cond-true (has_event site event) (Ok (EventLine event)) (Err NoSuch) has

-- ---- numbers

pub number_back : (field : List ℕ) (n : ℕ) → field ≡ decimal n → n < 2 ^ 64 → number_of field ≡ Some n
number_back field n is small = ap number_of is ∙ number_of-decimal n small

pub number_there : (field : List ℕ) (n : ℕ) → field ≡ decimal n → n < 2 ^ 64 → is_number field ≡ true
number_there field n is small = ap is_some (number_back field n is small)

pub octet_back : (field : List ℕ) (n : ℕ) → field ≡ decimal n → n < 256 → number_below 256 field ≡ Some n
octet_back field n is small =
    ap (option_and_then (λ number. if nat_lt number 256 then Some number else None)) (number_back field n is (omega (arith, small)))
    ∙ cond-true (nat_lt n 256) (Some n) None (lt-ltb n 256 small)

-- ---- rows

-- so many fields
pub counted : {A : Type 0} (n k : ℕ) (x y : A) → n ≡ k → (if n == k then x else y) ≡ x
counted n k x y is = cond-true (n == k) x y (eq-eqb n k is)

pub passed : {A : Type 0} (test : Bool) (x y : A) → test ≡ true → (if test then x else y) ≡ x
passed test x y is = cond-true test x y is

-- ---- what is to be shown of each line

pub record IsTextOf (site : Site) (so_far : TicksSoFar) (line : Line) (text : List ℕ) : Type 0 where
  pub bytes : IsLineText text
  pub says : judged site so_far text ≡ Ok (line_view line)

-- a tick has begun
pub begun : (so_far : TicksSoFar) → 1 ≤ so_far.ticks → nat_lt 0 so_far.ticks ≡ true
begun so_far due = lt-ltb 0 so_far.ticks (omega (arith, due))
