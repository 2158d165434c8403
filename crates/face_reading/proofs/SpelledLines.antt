-- The line of each entry is its fields, joined by spaces, with a line end; and its fields spell the entry.
use Rattle.std.proofs.Common.{◌≡◌, ◌∙◌, ◌<◌, ◌≤◌, ◌^◌, ◌++◌, ◌&&◌, ℕ, zero, suc, Bool, true, false, List, [], ◌∷◌, Option, Some, get_or, refl, ap, append_assoc, arith}
use Rattle.std.specs.Prelude.{bytes_eq, codes, decimal, option_map}
use Rattle.std.specs.List.{list_all}
use Rattle.std.specs.Option.{option_and_then}
use Rattle.std.proofs.lemmas.Bool.{and_from}
use Rattle.std.proofs.lemmas.List.{append-nil}
use Rattle.site_types.specs.declared.site.Site.{Site}
use Rattle.site_types.specs.Valid.{IsValid}
use Rattle.face_text.specs.declared.group.Group.{Group}
use Rattle.face_text.specs.declared.group.Group.TheVariants.{Zones, Firsts, Missing, Broken, Shorted, Supplies, Silent, Links, Unconfirmed, Outputs, Confirmed, PointsOff, ZonesOff, OutputsOff, Tests}
use Rattle.face_text.specs.Slots.{kind_of, last_of, line_of, line_of_thing, name_in, number_of_truth, on_word, word_of}
use Rattle.face_reading.specs.declared.change.Change.{Change}
use Rattle.face_reading.specs.declared.change.Change.TheVariants.{Thing as ThingChange}
use Rattle.face_reading.specs.declared.entry.Entry.{Entry}
use Rattle.face_reading.specs.declared.entry.Entry.TheVariants.{Change as ChangeEntry}
use Rattle.site_types.specs.Fields.{field}
use Rattle.face_reading.specs.Entries.{entry_line, slot_of}
use Rattle.face_reading.specs.Spelled.{by_panel, entry_spelled, panel_spelled, thing_spelled, told_of, truth_place}
use Rattle.line_fields.proofs.Joined.{HasFields}
use Rattle.face_reading.proofs.EntryFields.{fields_of, joined}
use Rattle.face_reading.proofs.NamedThings.{ThingBack, below_back, thing_back, word_at, words_of}
use Rattle.line_fields.specs.Numbers.{number_below}
use Rattle.line_fields.specs.Words.{truth_of}
use Rattle.line_fields.proofs.PlainFields.{are_plain, decimal_plain, is_plain}

-- the fields of an entry's line
pub record IsSpelled (site : Site) (entry : Entry) : Type 0 where
  pub word : List ℕ
  pub fields : List (List ℕ)
  pub plain : list_all is_plain word ≡ true
  pub others : are_plain fields ≡ true
  pub line_is : entry_line site entry ≡ joined word fields ++ 10 ∷ []
  pub spelled : entry_spelled site (joined word fields) ≡ Some entry

-- ---- lines of a panel

-- what a line of a panel's page needs to be spelled, whatever it tells
pub record IsTold (site : Site) (panel : ℕ) (line : List ℕ) (entry : Entry) : Type 0 where
  pub fields : List (List ℕ)
  pub others : are_plain fields ≡ true
  pub line_is : line ≡ joined (decimal panel) fields ++ 10 ∷ []
  pub spelled : (text : List ℕ) → HasFields text (decimal panel) fields → panel_spelled site panel text ≡ Some entry

pub told_spelled : (site : Site) (panel : ℕ) (entry : Entry) → panel < 256 → IsTold site panel (entry_line site entry) entry → IsSpelled site entry
told_spelled site panel entry small told =
    let wide : panel < 2 ^ 64 = omega (arith, small) in
    let digits = decimal_plain panel wide in
    let text = joined (decimal panel) told.fields in
    let has = fields_of (decimal panel) told.fields digits told.others in
    record {
      word = decimal panel;
      fields = told.fields;
      plain = digits;
      others = told.others;
      line_is = told.line_is;
      spelled = ap (by_panel site text) (ap (number_below 256) (has.at 0) ∙ below_back 256 panel small wide) ∙ told.spelled text has;
    }

-- ---- things

-- the word that tells whether a thing is on
abbrev pub state_of : Bool → List ℕ
state_of true = codes "on"
state_of false = codes "off"

pub state_line : (on : Bool) → on_word (number_of_truth on) ≡ 32 ∷ (state_of on ++ 10 ∷ [])
state_line true = refl
state_line false = refl

pub state_plain : (on : Bool) → list_all is_plain (state_of on) ≡ true
state_plain true = refl
state_plain false = refl

pub state_back : (on : Bool) → truth_of (state_of on) ≡ Some on
state_back true = refl
state_back false = refl

regroup : (panel word kind name state : List ℕ) →
    (panel ++ 32 ∷ [] ++ word ++ kind ++ name) ++ (32 ∷ (state ++ 10 ∷ [])) ≡ (panel ++ (32 ∷ (word ++ (kind ++ (name ++ (32 ∷ (state ++ [])))))))
    ++ 10 ∷ []
regroup panel word kind name state = simp (append_assoc, append-nil)

thing_joined : (panel : ℕ) (group : Group) (name state : List ℕ) →
    (decimal panel ++ codes " " ++ word_of group ++ kind_of group ++ name)
    ++ (32 ∷ (state ++ 10 ∷ [])) ≡ joined (decimal panel) (words_of group name state) ++ 10 ∷ []
thing_joined panel (Zones other) name state = regroup (decimal panel) (codes "zone ") [] name state
thing_joined panel (Firsts other) name state = regroup (decimal panel) (codes "first ") [] name state
thing_joined panel (Missing line) name state = regroup (decimal panel) (codes "fault ") (codes "missing ") name state
thing_joined panel Broken name state = regroup (decimal panel) (codes "fault ") (codes "broken ") name state
thing_joined panel Shorted name state = regroup (decimal panel) (codes "fault ") (codes "shorted ") name state
thing_joined panel Supplies name state = regroup (decimal panel) (codes "fault ") [] name state
thing_joined panel Silent name state = regroup (decimal panel) (codes "fault ") (codes "silent ") name state
thing_joined panel Links name state = regroup (decimal panel) (codes "fault ") (codes "link ") name state
thing_joined panel Unconfirmed name state = regroup (decimal panel) (codes "fault ") (codes "unconfirmed ") name state
thing_joined panel Outputs name state = regroup (decimal panel) (codes "output ") [] name state
thing_joined panel Confirmed name state = regroup (decimal panel) (codes "confirmed ") [] name state
thing_joined panel (PointsOff line) name state = regroup (decimal panel) (codes "disabled ") (codes "point ") name state
thing_joined panel ZonesOff name state = regroup (decimal panel) (codes "disabled ") (codes "zone ") name state
thing_joined panel OutputsOff name state = regroup (decimal panel) (codes "disabled ") (codes "output ") name state
thing_joined panel Tests name state = regroup (decimal panel) (codes "test ") [] name state

two_plain : (name state : List ℕ) → list_all is_plain name ≡ true → list_all is_plain state ≡ true → are_plain (name ∷ state ∷ []) ≡ true
two_plain name state one other =
    and_from (list_all is_plain name) (list_all is_plain state && true) one (and_from (list_all is_plain state) true other refl)

words_plain : (group : Group) (name state : List ℕ) → are_plain (name ∷ state ∷ []) ≡ true → are_plain (words_of group name state) ≡ true
words_plain (Zones other) name state plain = plain
words_plain (Firsts other) name state plain = plain
words_plain (Missing line) name state plain = plain
words_plain Broken name state plain = plain
words_plain Shorted name state plain = plain
words_plain Supplies name state plain = plain
words_plain Silent name state plain = plain
words_plain Links name state plain = plain
words_plain Unconfirmed name state plain = plain
words_plain Outputs name state plain = plain
words_plain Confirmed name state plain = plain
words_plain (PointsOff line) name state plain = plain
words_plain ZonesOff name state plain = plain
words_plain OutputsOff name state plain = plain
words_plain Tests name state plain = plain

-- a line whose word is that of no other change and not `busy` tells of a thing
word_row : (site : Site) (panel : ℕ) (text word : List ℕ) → field 1 text ≡ word → bytes_eq word (codes "busy") ≡ false
    → bytes_eq word (codes "delays") ≡ false → bytes_eq word (codes "buzzer") ≡ false →
    bytes_eq word (codes "counter") ≡ false
    → panel_spelled site panel text ≡ option_map (λ change. ChangeEntry panel change)
    (option_and_then (told_of text) (thing_spelled site word (field 2 text) (field 3 text)))
word_row site panel text word is busy delays buzzer counter = rw (is, busy, delays, buzzer, counter) refl

pub record IsThingWord (word : List ℕ) : Type 0 where
  pub not_busy : bytes_eq word (codes "busy") ≡ false
  pub not_delays : bytes_eq word (codes "delays") ≡ false
  pub not_buzzer : bytes_eq word (codes "buzzer") ≡ false
  pub not_counter : bytes_eq word (codes "counter") ≡ false

thing_word : (group : Group) (name state : List ℕ) → IsThingWord (word_at 0 (words_of group name state))
thing_word (Zones other) name state = record { not_busy = refl; not_delays = refl; not_buzzer = refl; not_counter = refl }
thing_word (Firsts other) name state = record { not_busy = refl; not_delays = refl; not_buzzer = refl; not_counter = refl }
thing_word (Missing line) name state = record { not_busy = refl; not_delays = refl; not_buzzer = refl; not_counter = refl }
thing_word Broken name state = record { not_busy = refl; not_delays = refl; not_buzzer = refl; not_counter = refl }
thing_word Shorted name state = record { not_busy = refl; not_delays = refl; not_buzzer = refl; not_counter = refl }
thing_word Supplies name state = record { not_busy = refl; not_delays = refl; not_buzzer = refl; not_counter = refl }
thing_word Silent name state = record { not_busy = refl; not_delays = refl; not_buzzer = refl; not_counter = refl }
thing_word Links name state = record { not_busy = refl; not_delays = refl; not_buzzer = refl; not_counter = refl }
thing_word Unconfirmed name state = record { not_busy = refl; not_delays = refl; not_buzzer = refl; not_counter = refl }
thing_word Outputs name state = record { not_busy = refl; not_delays = refl; not_buzzer = refl; not_counter = refl }
thing_word Confirmed name state = record { not_busy = refl; not_delays = refl; not_buzzer = refl; not_counter = refl }
thing_word (PointsOff line) name state = record { not_busy = refl; not_delays = refl; not_buzzer = refl; not_counter = refl }
thing_word ZonesOff name state = record { not_busy = refl; not_delays = refl; not_buzzer = refl; not_counter = refl }
thing_word OutputsOff name state = record { not_busy = refl; not_delays = refl; not_buzzer = refl; not_counter = refl }
thing_word Tests name state = record { not_busy = refl; not_delays = refl; not_buzzer = refl; not_counter = refl }

-- a field behind the panel's number
pub word_there : (words : List (List ℕ)) (place : ℕ) → get_or words place [] ≡ word_at place words
word_there [] zero = refl
word_there (word ∷ words) zero = refl
word_there [] (suc place) = refl
word_there (word ∷ words) (suc place) = word_there words place

state_at : (panel : List ℕ) (group : Group) (name state : List ℕ) → get_or (panel ∷ words_of group name state) (truth_place group) [] ≡ state
state_at panel (Zones other) name state = refl
state_at panel (Firsts other) name state = refl
state_at panel (Missing line) name state = refl
state_at panel Broken name state = refl
state_at panel Shorted name state = refl
state_at panel Supplies name state = refl
state_at panel Silent name state = refl
state_at panel Links name state = refl
state_at panel Unconfirmed name state = refl
state_at panel Outputs name state = refl
state_at panel Confirmed name state = refl
state_at panel (PointsOff line) name state = refl
state_at panel ZonesOff name state = refl
state_at panel OutputsOff name state = refl
state_at panel Tests name state = refl

thing_told_by : (site : Site) (panel : ℕ) (group : Group) (number : ℕ) (on : Bool) (name : List ℕ) → ThingBack site group number name
    → (text : List ℕ) → HasFields text (decimal panel) (words_of group name (state_of on)) →
    panel_spelled site panel text ≡ Some (ChangeEntry panel (ThingChange group number on))
thing_told_by site panel group number on name back text has =
    let words = words_of group name (state_of on) in
    let one : field 1 text ≡ word_at 0 words = has.at 1 ∙ word_there words 0 in
    let two : field 2 text ≡ word_at 1 words = has.at 2 ∙ word_there words 1 in
    let three : field 3 text ≡ word_at 2 words = has.at 3 ∙ word_there words 2 in
    let word = thing_word group name (state_of on) in
    let tell = λ (found : Option Change). option_map (λ change. ChangeEntry panel change) found in
    let truth : truth_of (field (truth_place group) text) ≡ Some on =
    ap truth_of (has.at (truth_place group) ∙ state_at (decimal panel) group name (state_of on)) ∙ state_back on in
    word_row site panel text (word_at 0 words) one word.not_busy word.not_delays word.not_buzzer word.not_counter
    ∙ ap (λ w. tell (option_and_then (told_of text) (thing_spelled site (word_at 0 words) w (field 3 text)))) two
    ∙ ap (λ w. tell (option_and_then (told_of text) (thing_spelled site (word_at 0 words) (word_at 1 words) w))) three
    ∙ ap (λ thing. tell (option_and_then (told_of text) thing)) (back.back (state_of on))
    ∙ ap (λ t. tell (option_map (λ o. ThingChange group number o) t)) truth

pub thing_told : (site : Site) → IsValid site → (panel : ℕ) (group : Group) (number : ℕ) (on : Bool) (name : List ℕ) → number ≤ last_of group
    → name_in site panel group number ≡ Some name →
    IsTold site panel (line_of site panel (slot_of (ThingChange group number on)) (number_of_truth on))
    (ChangeEntry panel (ThingChange group number on))
thing_told site valid panel group number on name most is =
    let back = thing_back site valid panel group number name most is in
    record {
      fields = words_of group name (state_of on);
      others = words_plain group name (state_of on) (two_plain name (state_of on) back.plain (state_plain on));
      line_is =
          ap (line_of_thing panel group (number_of_truth on)) is ∙ ap (λ t. (decimal panel ++ codes " " ++ word_of group ++ kind_of group ++ name)
          ++ t) (state_line on) ∙ thing_joined panel group name (state_of on);
      spelled = thing_told_by site panel group number on name back;
    }
