-- The row of a text, by its first word.
use Rattle.std.proofs.Common.{◌≡◌, ℕ, List, refl}
use Rattle.std.specs.Prelude.{codes}
use Rattle.site_types.specs.Fields.{field}
use Rattle.record_lines.specs.Forms.{cable_form, end_form, event_form_of, form_of, link_form, op_form, order_form, point_form, routing_form, supply_form, tick_form}

pub tick_row : (text : List ℕ) → field 0 text ≡ codes "tick" → form_of text ≡ tick_form text
tick_row text is = rw is refl

pub point_row : (text : List ℕ) → field 0 text ≡ codes "point" → event_form_of text ≡ point_form text
point_row text is = rw is refl

pub cable_row : (text : List ℕ) → field 0 text ≡ codes "cable" → event_form_of text ≡ cable_form text
cable_row text is = rw is refl

pub supply_row : (text : List ℕ) → field 0 text ≡ codes "supply" → event_form_of text ≡ supply_form text
supply_row text is = rw is refl

pub link_row : (text : List ℕ) → field 0 text ≡ codes "link" → event_form_of text ≡ link_form text
link_row text is = rw is refl

pub routing_row : (text : List ℕ) → field 0 text ≡ codes "routing" → event_form_of text ≡ routing_form text
routing_row text is = rw is refl

pub op_row : (text : List ℕ) → field 0 text ≡ codes "op" → event_form_of text ≡ op_form text
op_row text is = rw is refl

pub order_row : (text : List ℕ) → field 0 text ≡ codes "order" → form_of text ≡ order_form text
order_row text is = rw is refl

pub end_row : (text : List ℕ) → field 0 text ≡ codes "end" → form_of text ≡ end_form text
end_row text is = rw is refl
