-- The printed line of an operation.
use Rattle.std.proofs.Common.{◌≡◌, ◌∙◌, ◌+◌, ◌<◌, ◌≤◌, ℕ, true, List, [], ◌∷◌, Option, Some, None, length, refl, ap, arith}
use Rattle.std.specs.Prelude.{codes, bytes_eq, decimal, option_map, ◌==◌, if◌then◌else◌}
use Rattle.std.specs.Option.{option_and_then}
use Rattle.std.proofs.lemmas.Bool.{and_parts, or_right}
use Rattle.arrayvec.specs.ArrayString.{ArrayString}
use Rattle.site_types.specs.Events.{has_event, has_item, has_operands, is_panel}
use Rattle.site_types.specs.Names.{is_code}
use Rattle.site_types.specs.Things.{thing_named}
use Rattle.site_types.specs.Valid.{IsValid}
use Rattle.site_types.specs.declared.site.Site.{Site}
use Rattle.site_types.specs.declared.event.Event.TheVariants.{Op}
use Rattle.site_types.specs.declared.item.Item.{Item}
use Rattle.site_types.specs.declared.item.Item.TheVariants.{Point as PointItem, Zone as ZoneItem, Output as OutputItem}
use Rattle.site_types.specs.declared.named.Thing.{Thing}
use Rattle.site_types.specs.declared.named.Thing.TheVariants.{Point as PointThing, Zone as ZoneThing, Output as OutputThing}
use Rattle.site_types.specs.declared.operation.Operation.{Operation}
use Rattle.site_types.specs.declared.operation.Operation.TheVariants.{Mute, Override, Silence, Resound, Reset}
use Rattle.site_types.specs.declared.operation.Operation.TheVariants.{Cancel as CancelZone, Disable as DisableItem}
use Rattle.site_types.specs.declared.operation.Operation.TheVariants.{Enable as EnableItem, Test as SetTest}
use Rattle.site_types.specs.declared.operation.Operation.TheVariants.{Untest as UntestZone, Delays, Clear}
use Rattle.record_lines.specs.Events.{code_in, event_view, item_of, label_view, labelled, op_of, operation_of, output_in, point_in, zone_in}
use Rattle.line_fields.specs.Fields.{field_count}
use Rattle.site_types.specs.Fields.{field}
use Rattle.record_lines.specs.Forms.{action_of, event_form_of, is_code_field, named_action_of, plain_action_of, zone_action_of}
use Rattle.record_lines.specs.Printed.{action_fields, code_text, event_text, item_fields, joined, name_text, on_word}
use Rattle.record_lines.specs.ReadBack.{IsCode}
use Rattle.record_lines.specs.declared.form.EventForm.TheVariants.{Op as OpForm}
use Rattle.record_lines.specs.declared.form.Action.{Action}
use Rattle.record_lines.specs.declared.form.Action.TheVariants.{Plain, Cancel, Test, Untest, Disable, Enable}
use Rattle.record_lines.specs.declared.form.Kind.{Kind}
use Rattle.record_lines.specs.declared.form.Kind.TheVariants.{Point as PointKind, Zone as ZoneKind, Output as OutputKind}
use Rattle.record_lines.specs.declared.line.Line.TheVariants.{Event as EventLine}
use Rattle.record_lines.specs.declared.ticks_so_far.TicksSoFar.{TicksSoFar}
use Rattle.line_fields.proofs.Joined.{HasFields}
use Rattle.record_lines.proofs.Joins.{fields_of, fit_more, joined_text}
use Rattle.line_fields.proofs.PlainFields.{are_fit, code_fit, is_fit, number_fit, octet_small}
use Rattle.record_lines.proofs.PrintedNames.{IsNamed, output_there, point_with, zone_there}
use Rattle.record_lines.proofs.PrintedWords.{word_of_on}
use Rattle.record_lines.proofs.Rows.{op_row}
use Rattle.record_lines.proofs.SupplyLines.{panel_octet}
use Rattle.record_lines.proofs.Verdicts.{IsTextOf, begun, event_from, judged_event, number_there, octet_back, passed}

-- ---- codes

code_form : (code : Option ArrayString) → IsCode code → is_code_field (code_text code) ≡ true
code_form None is = refl
code_form (Some code) is = or_right (bytes_eq code.bytes (codes "-")) (is_code code.bytes) is

code_text_fit : (code : Option ArrayString) → IsCode code → is_fit 20 (code_text code) ≡ true
code_text_fit None is = refl
code_text_fit (Some code) is = code_fit code.bytes is

code_back : (code : Option ArrayString) → IsCode code → option_map labelled (code_in (code_text code)) ≡ option_map label_view code
code_back None is = refl
code_back (Some code) is = ap (option_map labelled) (passed (is_code code.bytes) (Some code.bytes) None is)

-- ---- what an operation names

abbrev item_thing : Item → Thing
item_thing (PointItem place) = PointThing place
item_thing (ZoneItem place) = ZoneThing place
item_thing (OutputItem place) = OutputThing place

-- what the operation names is a thing of the site
abbrev AreNamed : Site → Operation → Type 0
AreNamed site Mute = Unit {0}
AreNamed site Override = Unit {0}
AreNamed site Silence = Unit {0}
AreNamed site Resound = Unit {0}
AreNamed site Reset = Unit {0}
AreNamed site (CancelZone zone) = IsNamed site (ZoneThing zone)
AreNamed site (DisableItem item) = IsNamed site (item_thing item)
AreNamed site (EnableItem item) = IsNamed site (item_thing item)
AreNamed site (SetTest zone) = IsNamed site (ZoneThing zone)
AreNamed site (UntestZone zone) = IsNamed site (ZoneThing zone)
AreNamed site (Delays on) = Unit {0}
AreNamed site Clear = Unit {0}

item_named : (site : Site) → IsValid site → (panel : ℕ) (item : Item) → has_item site panel item ≡ true → IsNamed site (item_thing item)
item_named site valid panel (PointItem place) has = point_with site valid _ place has
item_named site valid panel (ZoneItem place) has = zone_there site valid _ place has
item_named site valid panel (OutputItem place) has = output_there site valid _ place has

are_named : (site : Site) → IsValid site → (panel : ℕ) (operation : Operation) → has_operands site panel operation ≡ true → AreNamed site operation
are_named site valid panel Mute has = tt
are_named site valid panel Override has = tt
are_named site valid panel Silence has = tt
are_named site valid panel Resound has = tt
are_named site valid panel Reset has = tt
are_named site valid panel (CancelZone zone) has = zone_there site valid _ zone has
are_named site valid panel (DisableItem item) has = item_named site valid panel item has
are_named site valid panel (EnableItem item) has = item_named site valid panel item has
are_named site valid panel (SetTest zone) has = zone_there site valid _ zone has
are_named site valid panel (UntestZone zone) has = zone_there site valid _ zone has
are_named site valid panel (Delays on) has = tt
are_named site valid panel Clear has = tt

-- ---- the fields of an operation

named_fit : (site : Site) (word : List ℕ) (thing : Thing) → is_fit 20 word ≡ true → IsNamed site thing
    → are_fit 20 (word ∷ name_text site thing ∷ []) ≡ true
named_fit site word thing fit named = fit_more 20 word (name_text site thing ∷ []) fit (fit_more 20 (name_text site thing) [] named.fit refl)

item_fit : (site : Site) (word : List ℕ) (item : Item) → is_fit 20 word ≡ true → IsNamed site (item_thing item)
    → are_fit 20 (word ∷ item_fields site item) ≡ true
item_fit site word (PointItem place) fit named =
    fit_more 20 word (item_fields site (PointItem place)) fit (named_fit site (codes "point") (PointThing place) refl named)
item_fit site word (ZoneItem place) fit named =
    fit_more 20 word (item_fields site (ZoneItem place)) fit (named_fit site (codes "zone") (ZoneThing place) refl named)
item_fit site word (OutputItem place) fit named =
    fit_more 20 word (item_fields site (OutputItem place)) fit (named_fit site (codes "output") (OutputThing place) refl named)

action_fit : (site : Site) (operation : Operation) → AreNamed site operation → are_fit 20 (action_fields site operation) ≡ true
action_fit site Mute named = refl
action_fit site Override named = refl
action_fit site Silence named = refl
action_fit site Resound named = refl
action_fit site Reset named = refl
action_fit site (CancelZone zone) named = named_fit site (codes "cancel") (ZoneThing zone) refl named
action_fit site (DisableItem item) named = item_fit site (codes "disable") item refl named
action_fit site (EnableItem item) named = item_fit site (codes "enable") item refl named
action_fit site (SetTest zone) named = named_fit site (codes "test") (ZoneThing zone) refl named
action_fit site (UntestZone zone) named = named_fit site (codes "untest") (ZoneThing zone) refl named
action_fit site (Delays on) named = fit_more 20 (codes "delays") (on_word on ∷ []) refl (fit_more 20 (on_word on) [] (word_of_on on).fit refl)
action_fit site Clear named = refl

item_few : (site : Site) (item : Item) → length (item_fields site item) ≤ 2
item_few site (PointItem place) = omega arith
item_few site (ZoneItem place) = omega arith
item_few site (OutputItem place) = omega arith

action_few : (site : Site) (operation : Operation) → length (action_fields site operation) ≤ 3
action_few site Mute = omega arith
action_few site Override = omega arith
action_few site Silence = omega arith
action_few site Resound = omega arith
action_few site Reset = omega arith
action_few site (CancelZone zone) = omega arith
action_few site (DisableItem item) = omega (arith, item_few site item)
action_few site (EnableItem item) = omega (arith, item_few site item)
action_few site (SetTest zone) = omega arith
action_few site (UntestZone zone) = omega arith
action_few site (Delays on) = omega arith
action_few site Clear = omega arith

-- ---- the action that its words are read as

abbrev kind_for : Item → Kind
kind_for (PointItem place) = PointKind
kind_for (ZoneItem place) = ZoneKind
kind_for (OutputItem place) = OutputKind

abbrev action_for : Operation → Action
action_for Mute = Plain Mute
action_for Override = Plain Override
action_for Silence = Plain Silence
action_for Resound = Plain Resound
action_for Reset = Plain Reset
action_for (CancelZone zone) = Cancel
action_for (DisableItem item) = Disable (kind_for item)
action_for (EnableItem item) = Enable (kind_for item)
action_for (SetTest zone) = Test
action_for (UntestZone zone) = Untest
action_for (Delays on) = Plain (Delays on)
action_for Clear = Plain Clear

abbrev action_by : ℕ → List ℕ → List ℕ → Option Action
action_by count word next =
    if count == 4 then plain_action_of word else
    (if count == 5 then zone_action_of word next else (if count == 6 then named_action_of word next else None))

read_action : (text : List ℕ) (count : ℕ) (word next : List ℕ) → field_count text ≡ count → field 3 text ≡ word → field 4 text ≡ next
    → action_of text ≡ action_by count word next
read_action text count word next is_count is_word is_next =
    ap (λ n. action_by n (field 3 text) (field 4 text)) is_count ∙ ap (λ w. action_by count w (field 4 text)) is_word ∙ ap (action_by count word)
    is_next

-- the fields of an operation line
abbrev HasOperation : List ℕ → Site → List ℕ → List ℕ → Operation → Type 0
HasOperation text site panel code operation = HasFields text (codes "op") (panel ∷ code ∷ action_fields site operation)

action_back : (text : List ℕ) (site : Site) (panel code : List ℕ) (operation : Operation) → HasOperation text site panel code operation
    → action_of text ≡ Some (action_for operation)
action_back text site panel code Mute has = read_action text 4 (codes "mute") [] (ap (λ n. n + 1) has.count) (has.at 3) (has.at 4)
action_back text site panel code Override has = read_action text 4 (codes "override") [] (ap (λ n. n + 1) has.count) (has.at 3) (has.at 4)
action_back text site panel code Silence has = read_action text 4 (codes "silence") [] (ap (λ n. n + 1) has.count) (has.at 3) (has.at 4)
action_back text site panel code Resound has = read_action text 4 (codes "resound") [] (ap (λ n. n + 1) has.count) (has.at 3) (has.at 4)
action_back text site panel code Reset has = read_action text 4 (codes "reset") [] (ap (λ n. n + 1) has.count) (has.at 3) (has.at 4)
action_back text site panel code (CancelZone zone) has =
    read_action text 5 (codes "cancel") (name_text site (ZoneThing zone)) (ap (λ n. n + 1) has.count) (has.at 3) (has.at 4)
action_back text site panel code (DisableItem (PointItem place)) has =
    read_action text 6 (codes "disable") (codes "point") (ap (λ n. n + 1) has.count) (has.at 3) (has.at 4)
action_back text site panel code (DisableItem (ZoneItem place)) has =
    read_action text 6 (codes "disable") (codes "zone") (ap (λ n. n + 1) has.count) (has.at 3) (has.at 4)
action_back text site panel code (DisableItem (OutputItem place)) has =
    read_action text 6 (codes "disable") (codes "output") (ap (λ n. n + 1) has.count) (has.at 3) (has.at 4)
action_back text site panel code (EnableItem (PointItem place)) has =
    read_action text 6 (codes "enable") (codes "point") (ap (λ n. n + 1) has.count) (has.at 3) (has.at 4)
action_back text site panel code (EnableItem (ZoneItem place)) has =
    read_action text 6 (codes "enable") (codes "zone") (ap (λ n. n + 1) has.count) (has.at 3) (has.at 4)
action_back text site panel code (EnableItem (OutputItem place)) has =
    read_action text 6 (codes "enable") (codes "output") (ap (λ n. n + 1) has.count) (has.at 3) (has.at 4)
action_back text site panel code (SetTest zone) has =
    read_action text 5 (codes "test") (name_text site (ZoneThing zone)) (ap (λ n. n + 1) has.count) (has.at 3) (has.at 4)
action_back text site panel code (UntestZone zone) has =
    read_action text 5 (codes "untest") (name_text site (ZoneThing zone)) (ap (λ n. n + 1) has.count) (has.at 3) (has.at 4)
action_back text site panel code (Delays on) has =
    read_action text 5 (codes "delays") (on_word on) (ap (λ n. n + 1) has.count) (has.at 3) (has.at 4) ∙ ap (option_map (λ o. Plain (Delays o)))
    (word_of_on on).back
action_back text site panel code Clear has = read_action text 4 (codes "clear") [] (ap (λ n. n + 1) has.count) (has.at 3) (has.at 4)

-- ---- the operation that it is read as

-- what is made of a zone whose name was printed
zone_back : {A : Type 0} (site : Site) (make : ℕ → A) (field : List ℕ) (zone : ℕ) → field ≡ name_text site (ZoneThing zone)
    → IsNamed site (ZoneThing zone) →
    option_map make (zone_in (thing_named site field)) ≡ Some (make zone)
zone_back site make field zone is named =
    ap (λ n. option_map make (zone_in (thing_named site n))) is ∙ ap (λ t. option_map make (zone_in t)) named.found

-- and of an item
item_back : (site : Site) (make : Item → Operation) (field : List ℕ) (item : Item) → field ≡ name_text site (item_thing item)
    → IsNamed site (item_thing item) →
    option_map make (item_of site (kind_for item) field) ≡ Some (make item)
item_back site make field (PointItem place) is named =
    ap (λ n. option_map make (item_of site PointKind n)) is ∙ ap (λ t. option_map make (option_map (λ p. PointItem p) (point_in t))) named.found
item_back site make field (ZoneItem place) is named =
    ap (λ n. option_map make (item_of site ZoneKind n)) is ∙ ap (λ t. option_map make (option_map (λ p. ZoneItem p) (zone_in t))) named.found
item_back site make field (OutputItem place) is named =
    ap (λ n. option_map make (item_of site OutputKind n)) is ∙ ap (λ t. option_map make (option_map (λ p. OutputItem p) (output_in t))) named.found

-- the name of an item is the last field
item_at : (text : List ℕ) (site : Site) (panel code word : List ℕ) (item : Item)
    → HasFields text (codes "op") (panel ∷ code ∷ word ∷ item_fields site item) → field 5 text ≡ name_text site (item_thing item)
item_at text site panel code word (PointItem place) has = has.at 5
item_at text site panel code word (ZoneItem place) has = has.at 5
item_at text site panel code word (OutputItem place) has = has.at 5

operation_back : (text : List ℕ) (site : Site) (panel code : List ℕ) (operation : Operation) → HasOperation text site panel code operation
    → AreNamed site operation →
    operation_of site (action_for operation) text ≡ Some operation
operation_back text site panel code Mute has named = refl
operation_back text site panel code Override has named = refl
operation_back text site panel code Silence has named = refl
operation_back text site panel code Resound has named = refl
operation_back text site panel code Reset has named = refl
operation_back text site panel code (CancelZone zone) has named = zone_back site (λ z. CancelZone z) (field 4 text) zone (has.at 4) named
operation_back text site panel code (DisableItem item) has named =
    item_back site (λ i. DisableItem i) (field 5 text) item (item_at text site panel code (codes "disable") item has) named
operation_back text site panel code (EnableItem item) has named =
    item_back site (λ i. EnableItem i) (field 5 text) item (item_at text site panel code (codes "enable") item has) named
operation_back text site panel code (SetTest zone) has named = zone_back site (λ z. SetTest z) (field 4 text) zone (has.at 4) named
operation_back text site panel code (UntestZone zone) has named = zone_back site (λ z. UntestZone z) (field 4 text) zone (has.at 4) named
operation_back text site panel code (Delays on) has named = refl
operation_back text site panel code Clear has named = refl

-- ---- the line

op_form_is : (text : List ℕ) (site : Site) (panel : List ℕ) (code : Option ArrayString) (operation : Operation) → IsCode code
    → HasOperation text site panel (code_text code) operation →
    event_form_of text ≡ Some (OpForm (action_for operation))
op_form_is text site panel code operation spelled has =
    let coded : is_code_field (field 2 text) ≡ true = ap is_code_field (has.at 2) ∙ code_form code spelled in
    op_row text (has.at 0) ∙ passed (is_code_field (field 2 text)) (option_map (λ a. OpForm a) (action_of text)) None coded ∙ ap
    (option_map (λ a. OpForm a)) (action_back text site panel (code_text code) operation has)

op_back : (text : List ℕ) (site : Site) (panel : ℕ) (code : Option ArrayString) (operation : Operation) → panel < 256 → IsCode code
    → AreNamed site operation →
    HasOperation text site (decimal panel) (code_text code) operation
    → op_of site (action_for operation) text ≡ Some (event_view (Op panel code operation))
op_back text site panel code operation below spelled named has =
    let made = λ (p : ℕ) (c : Option ArrayString) (o : Option Operation). option_map (λ operation. Op p c operation) o in
    let read = option_map labelled (code_in (field 2 text)) in
    ap (option_and_then (λ p. made p read (operation_of site (action_for operation) text))) (octet_back (field 1 text) panel (has.at 1) below)
    ∙ ap (made panel read) (operation_back text site (decimal panel) (code_text code) operation has named)
    ∙ ap (λ c. made panel c (Some operation)) (ap (λ t. option_map labelled (code_in t)) (has.at 2) ∙ code_back code spelled)

pub op_printed : (site : Site) → IsValid site → (so_far : TicksSoFar) → 1 ≤ so_far.ticks
    → (panel : ℕ) (code : Option ArrayString) (operation : Operation) → IsCode code → has_event site (Op panel code operation) ≡ true →
    IsTextOf site so_far (EventLine (Op panel code operation)) (event_text site (Op panel code operation))
op_printed site valid so_far due panel code operation spelled there =
    let parts = and_parts (is_panel site panel) (has_operands site panel operation) there in
    let below = panel_octet site valid panel parts.0 in
    let named = are_named site valid panel operation parts.1 in
    let action = action_fields site operation in
    let fields = decimal panel ∷ code_text code ∷ action in
    let text = joined (codes "op") fields in
    let last = fit_more 20 (code_text code) action (code_text_fit code spelled) (action_fit site operation named) in
    let fit = fit_more 20 (decimal panel) (code_text code ∷ action) (number_fit panel (octet_small panel below)) last in
    let has = fields_of 20 (codes "op") fields refl fit in
    let few = action_few site operation in
    record {
      bytes = joined_text 20 (codes "op") fields refl fit (omega (arith, few));
      says =
          judged_event site so_far text (codes "op") (OpForm (action_for operation)) (EventLine (event_view (Op panel code operation))) (has.at 0) refl
          (op_form_is text site (decimal panel) code operation spelled has) (begun so_far due)
          (number_there (field 1 text) panel (has.at 1) (octet_small panel below))
          (event_from site (OpForm (action_for operation)) text (event_view (Op panel code operation))
          (op_back text site panel code operation below spelled named has) there);
    }
