-- The printed line of a point's state, and that of a confirmed output.
use Rattle.std.proofs.Common.{◌≡◌, ◌∙◌, ◌&&◌, ◌+◌, ◌≤◌, ℕ, true, List, [], ◌∷◌, Some, None, refl, ap, arith}
use Rattle.std.specs.Prelude.{codes, bytes_eq, option_map, ◌==◌}
use Rattle.std.proofs.lemmas.Bool.{and_from, eq-eqb}
use Rattle.site_types.specs.Events.{has_event}
use Rattle.site_types.specs.Things.{thing_named}
use Rattle.site_types.specs.Valid.{IsValid}
use Rattle.site_types.specs.declared.site.Site.{Site}
use Rattle.site_types.specs.declared.event.Event.TheVariants.{Point, Confirmed}
use Rattle.site_types.specs.declared.named.Thing.TheVariants.{Point as PointThing, Output as OutputThing}
use Rattle.site_types.specs.declared.point_state.PointState.{PointState}
use Rattle.record_lines.specs.Events.{event_of, output_in, point_in}
use Rattle.line_fields.specs.Fields.{field_count}
use Rattle.site_types.specs.Fields.{field}
use Rattle.record_lines.specs.Forms.{event_form_of}
use Rattle.record_lines.specs.Printed.{event_text, joined, name_text, point_state_word}
use Rattle.record_lines.specs.Words.{point_state_of}
use Rattle.record_lines.specs.declared.form.EventForm.TheVariants.{Point as PointForm, Routing as RoutingForm}
use Rattle.record_lines.specs.declared.line.Line.TheVariants.{Event as EventLine}
use Rattle.record_lines.specs.declared.ticks_so_far.TicksSoFar.{TicksSoFar}
use Rattle.line_fields.proofs.Joined.{HasFields}
use Rattle.record_lines.proofs.Joins.{fields_of, fit_more, joined_text}
use Rattle.record_lines.proofs.PrintedNames.{output_there, point_there}
use Rattle.record_lines.proofs.PrintedWords.{point_word}
use Rattle.record_lines.proofs.Rows.{point_row, routing_row}
use Rattle.record_lines.proofs.Verdicts.{IsTextOf, begun, counted, event_from, judged_event, passed}

point_form_is : (text name : List ℕ) (state : PointState) → HasFields text (codes "point") (name ∷ point_state_word state ∷ [])
    → event_form_of text ≡ Some (PointForm state)
point_form_is text name state has =
    point_row text (has.at 0) ∙ counted (field_count text) 3 (option_map (λ s. PointForm s) (point_state_of (field 2 text))) None
    (ap (λ n. n + 1) has.count)
    ∙ ap (λ word. option_map (λ s. PointForm s) (point_state_of word)) (has.at 2) ∙ ap (option_map (λ s. PointForm s)) (point_word state).back

pub point_printed : (site : Site) → IsValid site → (so_far : TicksSoFar) → 1 ≤ so_far.ticks → (point : ℕ) (state : PointState)
    → has_event site (Point point state) ≡ true →
    IsTextOf site so_far (EventLine (Point point state)) (event_text site (Point point state))
point_printed site valid so_far due point state there =
    let name = name_text site (PointThing point) in
    let named = point_there site valid point there in
    let fields = name ∷ point_state_word state ∷ [] in
    let text = joined (codes "point") fields in
    let fit = fit_more 20 name (point_state_word state ∷ []) named.fit (fit_more 20 (point_state_word state) [] (point_word state).fit refl) in
    let has = fields_of 20 (codes "point") fields refl fit in
    let is : event_of site (PointForm state) text ≡ Some (Point point state) =
    ap (λ n. option_map (λ p. Point p state) (point_in (thing_named site n))) (has.at 1) ∙ ap (λ t. option_map (λ p. Point p state) (point_in t))
    named.found in
    record {
      bytes = joined_text 20 (codes "point") fields refl fit (omega arith);
      says = judged_event site so_far text (codes "point") (PointForm state) (EventLine (Point point state)) (has.at 0) refl (point_form_is text name state has) (begun so_far due)
          refl (event_from site (PointForm state) text (Point point state) is there);
    }

routing_form_is : (text name : List ℕ) → HasFields text (codes "routing") (name ∷ codes "confirmed" ∷ []) → event_form_of text ≡ Some RoutingForm
routing_form_is text name has =
    let count : (field_count text == 3) ≡ true = eq-eqb (field_count text) 3 (ap (λ n. n + 1) has.count) in
    let word : bytes_eq (field 2 text) (codes "confirmed") ≡ true = ap (λ w. bytes_eq w (codes "confirmed")) (has.at 2) in
    routing_row text (has.at 0) ∙ passed ((field_count text == 3) && bytes_eq (field 2 text) (codes "confirmed")) (Some RoutingForm) None
    (and_from (field_count text == 3) (bytes_eq (field 2 text) (codes "confirmed")) count word)

pub routing_printed : (site : Site) → IsValid site → (so_far : TicksSoFar) → 1 ≤ so_far.ticks → (output : ℕ)
    → has_event site (Confirmed output) ≡ true →
    IsTextOf site so_far (EventLine (Confirmed output)) (event_text site (Confirmed output))
routing_printed site valid so_far due output there =
    let name = name_text site (OutputThing output) in
    let named = output_there site valid _ output there in
    let fields = name ∷ codes "confirmed" ∷ [] in
    let text = joined (codes "routing") fields in
    let fit = fit_more 20 name (codes "confirmed" ∷ []) named.fit refl in
    let has = fields_of 20 (codes "routing") fields refl fit in
    let is : event_of site RoutingForm text ≡ Some (Confirmed output) =
    ap (λ n. option_map (λ o. Confirmed o) (output_in (thing_named site n))) (has.at 1) ∙ ap (λ t. option_map (λ o. Confirmed o) (output_in t))
    named.found in
    record {
      bytes = joined_text 20 (codes "routing") fields refl fit (omega arith);
      says = judged_event site so_far text (codes "routing") RoutingForm (EventLine (Confirmed output)) (has.at 0) refl (routing_form_is text name has) (begun so_far due) refl
          (event_from site RoutingForm text (Confirmed output) is there);
    }
