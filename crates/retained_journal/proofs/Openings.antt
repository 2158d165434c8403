-- What was read of a file, in the words of what the file opens to.
use Rattle.std.proofs.Common.{◌≡◌, ◌≢◌, ◌^◌, ◌+◌, ◌<◌, ◌≤◌, ◌==◌, ℕ, Bool, true, false, List, [], ◌∷◌, slice_index, length, refl, sym, ap, ◌∙◌, subst, arith}
use Rattle.std.specs.Prelude.{Option, Some, None, if◌then◌else◌, ◌&&◌, ◌||◌, not, nat_lt, Ok, Err}
use Rattle.std.proofs.lemmas.Bool.Decides.{nat_tests}
use Rattle.site_types.specs.Changes.{changed_by}
use Rattle.retained_journal.specs.declared.open_refusal.OpenRefusal.{OpenRefusal}
use Rattle.retained_journal.specs.declared.open_refusal.OpenRefusal.TheVariants.{Damaged}
use Rattle.retained_journal.specs.declared.replay.Replay.{Replay}
use Rattle.retained_journal.specs.declared.journal.Journal.{Journal}
use Rattle.retained_journal.specs.declared.log_gate.LogGate.TheVariants.{Shut, Open}
use Rattle.retained_journal.specs.Fields.{Agrees}
use Rattle.retained_journal.specs.Places.{log_gate, slot_place, whole_bytes}
use Rattle.retained_journal.specs.Places.{front_bytes}
use Rattle.retained_journal.specs.Slots.{retained_at, slot_number}
use Rattle.retained_journal.specs.Cells.{changes_of_cells}
use Rattle.retained_journal.specs.Opening.{change_out_of_form, chosen_place, counted, counter_too_great, cut_short}
use Rattle.retained_journal.specs.Opening.{no_open_slot, not_a_journal, other_site, damaged, first_of, front_refusal}
use Rattle.retained_journal.specs.Opening.{is_open, is_second, number_too_great, passes, refusal_of}
use Rattle.retained_journal.specs.Replays.{EndsReplay, RefusesReplay, counted_behind, wrong_in_cells}
use Rattle.retained_journal.specs.Journals.{IsLong, IsOfFront, IsReadFrom, IsReplayOf}
use Rattle.retained_journal.proofs.Finding.{found-none}
use Rattle.retained_journal.proofs.FrontAgreement.{chosen_fits, number_same, open_same, retained_same, second_same}
use Rattle.retained_journal.proofs.Replaying.{cells-none}

pub is_one : (n : ℕ) → n ≡ 1 → (n == 1) ≡ true
is_one n e = grind (arith, nat_tests)

pub not_one : (n : ℕ) → n ≢ 1 → (n == 1) ≡ false
not_one n e = grind (arith, nat_tests)

abbrev pub begun_at : Bool → ℕ → List ℕ → Replay
begun_at wide at file = record { wide = wide; kept = retained_at wide at file; number = slot_number at file; cells = 0; is_next_open = false }

module _ (wide : Bool) (front file : List ℕ) (second : Bool) (agrees : Agrees front_bytes front 0 file 0) (chosen : second ≡ is_second front) where
  same_second : second ≡ is_second file
  same_second = chosen ∙ second_same front file agrees

  pub begun_same : begun_at wide (slot_place second) front ≡ begun_at wide (chosen_place file) file
  begun_same =
      let number = number_same front file agrees (slot_place second) (chosen_fits second) in
      let kept = retained_same front file agrees wide (slot_place second) (chosen_fits second) in
      let e = same_second in
      rw (number, kept, e) refl

  gate_same : is_open log_gate front ≡ is_open log_gate file
  gate_same = open_same front file agrees 40 (omega arith)

  module _ (begun : Replay) (is : begun ≡ begun_at wide (slot_place second) front) where
    is_begun : begun ≡ begun_at wide (chosen_place file) file
    is_begun = is ∙ begun_same

    pub replay_open : slice_index front 40 ≡ 1 → (replay : Replay) → EndsReplay file begun replay → (change_out_of_form wide file ≡ None)
        × IsReplayOf wide file replay
    replay_open one replay ends = go (subst (λ (b : Replay). EndsReplay file b replay) is_begun ends)
      where
        open' : is_open log_gate file ≡ true
        open' = sym gate_same ∙ is_one (slice_index front 40) one

        count : counted file ≡ counted_behind file (slot_number (chosen_place file) file)
        count = rw open' refl

        go : EndsReplay file (begun_at wide (chosen_place file) file) replay → (change_out_of_form wide file ≡ None) × IsReplayOf wide file replay
        go ends' = (
          ap (λ (n : ℕ). damaged file (wrong_in_cells wide file n)) count ∙ ap (damaged file) ends'.replayed.form,
          record {
            cells = ends'.replayed.cells ∙ sym count;
            number = ends'.replayed.number ∙ ap (λ (n : ℕ). slot_number (chosen_place file) file + n) (sym count);
            kept = ends'.replayed.kept ∙ ap (λ (n : ℕ). changed_by (changes_of_cells file n) (retained_at wide (chosen_place file) file)) (sym count);
            next = ends'.next ∙ (let e = ends'.replayed.cells ∙ sym count in rw (e, open') refl);
          },
        )

    pub replay_refused : slice_index front 40 ≡ 1 → (refusal : OpenRefusal) → RefusesReplay file begun refusal
        → change_out_of_form wide file ≡ Some refusal
    replay_refused one refusal refuses =
        ap (λ (n : ℕ). damaged file (wrong_in_cells wide file n)) count ∙ subst (λ (b : Replay). RefusesReplay file b refusal) is_begun refuses
      where
        count : counted file ≡ counted_behind file (slot_number (chosen_place file) file)
        count = let open' = sym gate_same ∙ is_one (slice_index front 40) one in rw open' refl

    pub replay_shut : slice_index front 40 ≢ 1 → (change_out_of_form wide file ≡ None) × IsReplayOf wide file begun
    replay_shut other = (
      rw shut (ap (damaged file) (found-none _)),
      subst (λ (b : Replay). IsReplayOf wide file b) (sym is_begun) (record {
        cells = rw shut refl;
        number = rw shut (omega arith);
        kept = let none = cells-none file in rw (shut, none) refl;
        next = rw shut refl;
      }),
    )
      where
        shut : is_open log_gate file ≡ false
        shut = sym gate_same ∙ not_one (slice_index front 40) other

  pub read_so : (digest : List ℕ) (replay : Replay) (journal : Journal) → IsOfFront wide digest front second replay journal
      → IsReplayOf wide file replay → IsReadFrom wide digest file journal
  read_so digest replay journal of_front of = record {
    same_wide = of_front.same_wide;
    same_digest = of_front.same_digest;
    kept = of_front.kept ∙ of.kept;
    attempt = of_front.attempt;
    tried = of_front.tried;
    number = of_front.number ∙ of.number;
    second = of_front.same_second ∙ same_second;
    cells = of_front.cells ∙ of.cells;
    log = of_front.log ∙ ap (λ (b : Bool). if b then Open else Shut) gate_same;
    slot =
        of_front.slot ∙ open_same front file agrees (slot_place (not second)) (other_fits (not second)) ∙ ap
        (λ (b : Bool). is_open (slot_place (not b)) file) same_second;
    next = of_front.next ∙ of.next;
    moving = of_front.moving;
    torn = of_front.torn ∙ (let e = gate_same in let n = of.next in rw (e, n) refl);
  }
    where
      other_fits : (b : Bool) → slot_place b < front_bytes
      other_fits true = omega arith
      other_fits false = omega arith

-- a front that passes
pub passes_none : (found : Option OpenRefusal) → Ok tt ≡ passes found → found ≡ None
passes_none None e = refl
passes_none (Some refusal) e = absurd (cc)

pub passes_some : (found : Option OpenRefusal) (refusal : OpenRefusal) → Err refusal ≡ passes found → found ≡ Some refusal
passes_some None refusal e = absurd (cc)
passes_some (Some r) refusal e = cc

six_none : (a b c d e f : Option OpenRefusal) → first_of (a ∷ b ∷ c ∷ d ∷ e ∷ f ∷ []) ≡ None → (a ≡ None) × (b ≡ None) × (c ≡ None) × (d ≡ None)
    × (e ≡ None) × (f ≡ None)
six_none (Some x) b c d e f h = absurd (cc)
six_none None (Some x) c d e f h = absurd (cc)
six_none None None (Some x) d e f h = absurd (cc)
six_none None None None (Some x) e f h = absurd (cc)
six_none None None None None (Some x) f h = absurd (cc)
six_none None None None None None (Some x) h = absurd (cc)
six_none None None None None None None h = (refl, refl, refl, refl, refl, refl)

-- none of the causes stands where a front passes
pub no_cause : (digest : List ℕ) (len : ℕ) (file : List ℕ) → front_refusal digest len file ≡ None
    → (not_a_journal file ≡ None) × (cut_short len file ≡ None) × (other_site digest file ≡ None) × (no_open_slot file ≡ None)
    × (number_too_great (chosen_place file) file ≡ None) × (counter_too_great (chosen_place file) file ≡ None)
no_cause digest len file none =
    six_none (not_a_journal file) (cut_short len file) (other_site digest file) (no_open_slot file) (number_too_great (chosen_place file) file)
    (counter_too_great (chosen_place file) file) none

pub number_small : (digest : List ℕ) (len : ℕ) (front : List ℕ) (at : ℕ) → at ≡ chosen_place front → front_refusal digest len front ≡ None
    → slot_number at front ≤ 2 ^ 63
number_small digest len front at e none =
    subst (λ (k : ℕ). slot_number k front ≤ 2 ^ 63) (sym e)
    (go (nat_lt (2 ^ 63) (slot_number (chosen_place front) front)) refl (no_cause digest len front none).4)
  where
    go : (b : Bool) → nat_lt (2 ^ 63) (slot_number (chosen_place front) front) ≡ b → number_too_great (chosen_place front) front ≡ None
        → slot_number (chosen_place front) front ≤ 2 ^ 63
    go true is h = absurd (some_none is h)
      where
        some_none : nat_lt (2 ^ 63) (slot_number (chosen_place front) front) ≡ true → number_too_great (chosen_place front) front ≡ None → ⊥
        some_none is h' = let g = rw is at h' in cc
    go false is h = grind (arith, nat_tests)

not_cut : (a b c : Bool) (refusal : OpenRefusal) → c ≡ true → (if a || (c && b) then Some refusal else None) ≡ None → b ≡ false
not_cut a b false refusal is h = absurd (cc)
not_cut true b true refusal is h = absurd (cc)
not_cut false true true refusal is h = absurd (cc)
not_cut false false true refusal is h = refl

pub long_enough : (digest front file : List ℕ) → front_refusal digest (length file) front ≡ None → IsLong front file
long_enough digest front file none open' =
    let few = not_cut (nat_lt (length file) front_bytes) (nat_lt (length file) whole_bytes) (is_open log_gate front) (Damaged (length file) 0) open'
    (no_cause digest (length file) front none).1 in
    grind (arith, nat_tests)

-- a file that isn't refused by its front is refused by its cells alone
pub front_passes : (wide : Bool) (digest file : List ℕ) (cells : Option OpenRefusal) → front_refusal digest (length file) file ≡ None
    → change_out_of_form wide file ≡ cells → refusal_of wide digest file ≡ cells
front_passes wide digest file cells none found = pair (front_refusal digest (length file) file) (change_out_of_form wide file) cells none found
  where
    pair : (a b c : Option OpenRefusal) → a ≡ None → b ≡ c → first_of (a ∷ b ∷ []) ≡ c
    pair None None c e f = f
    pair None (Some r) c e f = f
    pair (Some x) b c e f = absurd (cc)

pub front_refuses : (wide : Bool) (digest file : List ℕ) (refusal : OpenRefusal) → front_refusal digest (length file) file ≡ Some refusal
    → refusal_of wide digest file ≡ Some refusal
front_refuses wide digest file refusal some = pair (front_refusal digest (length file) file) (change_out_of_form wide file) some
  where
    pair : (a b : Option OpenRefusal) → a ≡ Some refusal → first_of (a ∷ b ∷ []) ≡ Some refusal
    pair None b e = absurd (cc)
    pair (Some x) b e = e
