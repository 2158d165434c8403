-- The printed line of an order.
use Rattle.std.proofs.Common.{◌≡◌, ◌≢◌, ◌∙◌, ◌&&◌, ◌+◌, ◌*◌, ◌<◌, ◌≤◌, ◌^◌, inl, inr, ℕ, Bool, true, false, List, []}
use Rattle.std.proofs.Common.{◌∷◌, Some, None, Ok, Err, is_some, length, get_or, map, refl, sym, ap, subst, arith}
use Rattle.std.specs.Prelude.{◌⊎◌, codes, bytes_eq, decimal, nat_le}
use Rattle.std.specs.List.{AllByRecursion, list_all}
use Rattle.std.proofs.lemmas.Bool.{and_from, cond-false, le-leb, or_right}
use Rattle.std.proofs.lemmas.Fmt.{length-decimal-le}
use Rattle.std.proofs.lemmas.List.{length-map}
use Rattle.std.proofs.lemmas.List.Elements.{recursion_from_All}
use Rattle.site_types.specs.Numbers.{number_of}
use Rattle.site_types.specs.Valid.{IsValid}
use Rattle.site_types.specs.declared.site.Site.{Site}
use Rattle.tick_units.specs.Orders.{IsOrder, keep_seat, seat_of as seat_at}
use Rattle.tick_units.specs.declared.seat.Seat.{Seat}
use Rattle.tick_units.specs.declared.task.Task.{Task}
use Rattle.tick_units.specs.declared.task.Task.TheVariants.{Poll, Decide, Supply, Desk, Hold, Link, Effect, Drive, Keep}
use Rattle.tick_units.proofs.Canonical.{IsPanelSeat, Contains-canonical_seats-cases}
use Rattle.tick_units.proofs.Faults.{order_fault-none}
use Rattle.tick_units.proofs.OrderLaws.{length-order}
use Rattle.tick_units.proofs.Sound.{sound_from_order}
use Rattle.line_fields.specs.Fields.{each_field, field_count, space_count}
use Rattle.site_types.specs.Fields.{after_space, field}
use Rattle.record_lines.specs.Forms.{form_of, is_seat}
use Rattle.record_lines.specs.Judged.{order_line, ordered}
use Rattle.record_lines.specs.Printed.{joined, line_text, seat_text}
use Rattle.record_lines.specs.Seats.{is_numbered, order_of, order_unless, panel_of, seat_of, seat_with, seats_of}
use Rattle.record_lines.specs.Words.{task_of}
use Rattle.record_lines.specs.Forms.{OrderForm}
use Rattle.record_lines.specs.declared.line.Line.TheVariants.{Order as OrderLine}
use Rattle.record_lines.specs.declared.ticks_so_far.TicksSoFar.{TicksSoFar}
use Rattle.record_lines.specs.declared.why.Why.TheVariants.{BadOrder}
use Rattle.line_fields.proofs.Joined.{each_parted, fit_all_clear}
use Rattle.record_lines.proofs.Joins.{after_joined, fields_of, joined_text, seats_parted}
use Rattle.line_fields.proofs.PlainFields.{decimal_plain, is_fit, is_plain}
use Rattle.record_lines.proofs.Rows.{order_row}
use Rattle.record_lines.proofs.Verdicts.{IsTextOf, begun, judged_from, number_back, passed}

-- ---- one seat

-- the text of a seat is read as that seat
pub record IsSeatText (seat : Seat) (text : List ℕ) : Type 0 where
  pub fit : is_fit 5 text ≡ true
  pub is : is_seat text ≡ true
  pub numbered : is_numbered text ≡ true
  pub back : seat_of text ≡ seat

panel_back : (panel : ℕ) → panel < 256 → panel_of (Some panel) ≡ panel
panel_back panel below = omega (arith, below)

lettered : (letter : ℕ) (task : Task) (panel : ℕ) → task_of letter ≡ Some task → is_plain letter ≡ true → panel < 256
    → IsSeatText (seat_at panel task) (letter ∷ decimal panel)
lettered letter task panel known plain below =
    let small : panel < 2 ^ 64 = omega (arith, below) in
    let digits = decimal panel in
    let number = number_back digits panel refl small in
    let short = length-decimal-le 3 panel (omega arith) (omega (arith, below)) small in
    let all_plain = and_from (is_plain letter) (list_all is_plain digits) plain (decimal_plain panel small) in
    let few = le-leb (length (letter ∷ digits)) 5 (omega (arith, short)) in
    record {
      fit = and_from (is_plain letter && list_all is_plain digits) (nat_le (length (letter ∷ digits)) 5) all_plain few;
      is = or_right (bytes_eq (letter ∷ digits) (codes "k")) (is_some (task_of letter)) (ap is_some known);
      numbered = or_right (bytes_eq (letter ∷ digits) (codes "k")) (is_some (number_of digits)) (ap is_some number);
      back = ap (λ t. seat_with t digits) known ∙ ap (λ n. seat_at (panel_of n) task) number ∙ ap (λ p. seat_at p task) (panel_back panel below);
    }

panel_seat : (panel : ℕ) (task : Task) → task ≢ Keep → panel < 256 → IsSeatText (seat_at panel task) (seat_text (seat_at panel task))
panel_seat panel Poll other below = lettered 112 Poll panel refl refl below
panel_seat panel Decide other below = lettered 100 Decide panel refl refl below
panel_seat panel Supply other below = lettered 115 Supply panel refl refl below
panel_seat panel Desk other below = lettered 111 Desk panel refl refl below
panel_seat panel Hold other below = lettered 104 Hold panel refl refl below
panel_seat panel Link other below = lettered 108 Link panel refl refl below
panel_seat panel Effect other below = lettered 101 Effect panel refl refl below
panel_seat panel Drive other below = lettered 114 Drive panel refl refl below
panel_seat panel Keep other below = absurd (other refl)

abbrev IsPrinted : Seat → Type 0
IsPrinted seat = IsSeatText seat (seat_text seat)

keep_printed : IsPrinted keep_seat
keep_printed = record { fit = refl; is = refl; numbered = refl; back = refl }

seat_printed : (panels : ℕ) → panels ≤ 8 → (seat : Seat) → IsPanelSeat panels seat ⊎ (seat ≡ keep_seat) → IsPrinted seat
seat_printed panels few seat (inl of_panel) = let high = of_panel.high in panel_seat seat.panel seat.task of_panel.other (omega (arith, few, high))
seat_printed panels few seat (inr keep) = subst IsPrinted (sym keep) keep_printed

-- ---- the seats of an order

seats_printed : (panels : ℕ) → panels ≤ 8 → (seats : List Seat) → IsOrder panels seats → AllByRecursion IsPrinted seats
seats_printed panels few seats order =
    let known = (sound_from_order panels seats order).known in
    recursion_from_All IsPrinted seats
    (λ k d within. seat_printed panels few (get_or seats k d) ((Contains-canonical_seats-cases panels (get_or seats k d)).0 (known k d within)))

each_passes : (test : List ℕ → Bool) → ((seat : Seat) → IsPrinted seat → test (seat_text seat) ≡ true) → (seats : List Seat)
    → AllByRecursion IsPrinted seats → list_all test (map seat_text seats) ≡ true
each_passes test one [] all = refl
each_passes test one (seat ∷ seats) all =
    and_from (test (seat_text seat)) (list_all test (map seat_text seats)) (one seat all.0) (each_passes test one seats all.1)

all_back : (seats : List Seat) → AllByRecursion IsPrinted seats → map seat_of (map seat_text seats) ≡ seats
all_back [] all = refl
all_back (seat ∷ seats) all = ap (λ s. s ∷ map seat_of (map seat_text seats)) all.0.back ∙ ap (λ rest. seat ∷ rest) (all_back seats all.1)

-- ---- the line

-- the fields of an order's text, as they are walked
record IsOrderText (text : List ℕ) (seats : List Seat) : Type 0 where
  row : field_count text ≡ length seats + 1
  first : field 0 text ≡ codes "order"
  are_seats : each_field is_seat (space_count text) (after_space text) ≡ true
  are_numbered : each_field is_numbered (space_count text) (after_space text) ≡ true
  back : seats_of (space_count text) (after_space text) ≡ seats

walked : (seats : List Seat) → AllByRecursion IsPrinted seats → IsOrderText (joined (codes "order") (map seat_text seats)) seats
walked seats all =
    let fields = map seat_text seats in
    let text = joined (codes "order") fields in
    let fit = each_passes (is_fit 5) (λ seat printed. printed.fit) seats all in
    let clear = fit_all_clear 5 fields fit in
    let has = fields_of 5 (codes "order") fields refl fit in
    let behind = after_joined (codes "order") fields refl in
    let walk : (test : List ℕ → Bool) → each_field test (space_count text) (after_space text) ≡ list_all test fields =
    λ test. ap (λ n. each_field test n (after_space text)) has.count ∙ ap (λ t. each_field test (length fields) t) behind ∙ each_parted test fields
    clear
    in
    record {
      row = ap (λ n. n + 1) (has.count ∙ length-map seats seat_text);
      first = has.at 0;
      are_seats = walk is_seat ∙ each_passes is_seat (λ seat printed. printed.is) seats all;
      are_numbered = walk is_numbered ∙ each_passes is_numbered (λ seat printed. printed.numbered) seats all;
      back = ap (λ n. seats_of n (after_space text)) has.count ∙ ap (λ t. seats_of (length fields) t) behind ∙ seats_parted fields clear ∙ all_back
          seats all;
    }

order_form_is : (text : List ℕ) (seats : List Seat) → 1 ≤ length seats → IsOrderText text seats → form_of text ≡ Some OrderForm
order_form_is text seats some is =
    let row = is.row in
    let many : nat_le 2 (field_count text) ≡ true = le-leb 2 (field_count text) (omega (arith, row, some)) in
    let seated = each_field is_seat (space_count text) (after_space text) in
    order_row text is.first ∙ passed (nat_le 2 (field_count text) && seated) (Some OrderForm) None
    (and_from (nat_le 2 (field_count text)) seated many is.are_seats)

order_line_is : (site : Site) (so_far : TicksSoFar) (text : List ℕ) (seats : List Seat) → so_far.has_order ≡ false → IsOrder site.panels seats
    → IsOrderText text seats →
    order_line site so_far text ≡ Ok (OrderLine seats)
order_line_is site so_far text seats first order is =
    let read = ordered (order_of site.panels (seats_of (space_count text) (after_space text))) in
    cond-false so_far.has_order (Err (BadOrder 0)) read first ∙ ap (λ s. ordered (order_of site.panels s)) is.back ∙ ap
    (λ fault. ordered (order_unless seats fault)) ((order_fault-none site.panels seats).1 order)

pub order_printed : (site : Site) → IsValid site → (so_far : TicksSoFar) → 1 ≤ so_far.ticks → so_far.has_order ≡ false → (seats : List Seat)
    → IsOrder site.panels seats →
    IsTextOf site so_far (OrderLine seats) (line_text site (OrderLine seats))
order_printed site valid so_far due first seats order =
    let few = valid.forms.panels.1 in
    let all = seats_printed site.panels few seats order in
    let fields = map seat_text seats in
    let text = joined (codes "order") fields in
    let count : length seats ≡ 8 * site.panels + 1 = length-order site.panels seats order in
    let fit = each_passes (is_fit 5) (λ seat printed. printed.fit) seats all in
    let is = walked seats all in
    record {
      bytes = joined_text 5 (codes "order") fields refl fit (omega (arith, count, few, length-map seats seat_text));
      says = judged_from site so_far text OrderForm (OrderLine seats) (order_form_is text seats (omega (arith, count)) is) (begun so_far due)
          is.are_numbered (order_line_is site so_far text seats first order is);
    }
