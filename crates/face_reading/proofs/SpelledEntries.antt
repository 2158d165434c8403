-- The line of each entry is its fields, joined by spaces, with a line end; and its fields spell the entry.
use Rattle.std.proofs.Common.{◌≡◌, ◌∙◌, ◌<◌, ◌≤◌, ◌^◌, ◌++◌, ◌&&◌, ℕ, Bool, true, List, [], ◌∷◌, Option, Some, None, refl, sym, ap, append_assoc, arith}
use Rattle.std.specs.Prelude.{codes, decimal, option_map, IsTrue}
use Rattle.std.specs.List.{list_all}
use Rattle.std.specs.Option.{option_and_then}
use Rattle.std.proofs.lemmas.Bool.{and_from}
use Rattle.std.proofs.lemmas.List.{append-nil}
use Rattle.site_types.specs.declared.buzzer.Buzzer.{Buzzer}
use Rattle.site_types.specs.declared.buzzer.Buzzer.TheVariants.{Off, Fault, Fire}
use Rattle.site_types.specs.declared.site.Site.{Site}
use Rattle.site_types.specs.Limits.{greatest_count}
use Rattle.site_types.specs.Numbers.{number_of}
use Rattle.site_types.specs.Valid.{IsValid}
use Rattle.site_types.proofs.Spelling.{number_of-decimal}
use Rattle.face_text.specs.declared.reply.Reply.{Reply}
use Rattle.face_text.specs.declared.reply.Reply.TheVariants.{Done, Denied, Waiting, Already, Store}
use Rattle.face_text.specs.Answers.{counted_line, reply_words}
use Rattle.face_text.specs.Slots.{buzzer_line, buzzer_word, counter_line, delays_line, is_named, line_of, name_in, number_of_buzzer, number_of_truth}
use Rattle.face_text.specs.Timelines.{IsReply}
use Rattle.face_reading.specs.declared.change.Change.{Change}
use Rattle.face_reading.specs.declared.change.Change.TheVariants.{Thing as ThingChange, Delays as DelaysChange, Buzzer as BuzzerChange, Counter as CounterChange}
use Rattle.face_reading.specs.declared.entry.Entry.{Entry}
use Rattle.site_types.specs.Fields.{field}
use Rattle.face_reading.specs.declared.entry.Entry.TheVariants.{Change as ChangeEntry, Answer as AnswerEntry, Busy as BusyEntry, StoreFailed, Tick as TickEntry, End as EndEntry}
use Rattle.face_reading.specs.Entries.{IsChange, IsEntry, entry_line, slot_of, value_of}
use Rattle.face_reading.specs.Spelled.{answer_spelled, by_panel, denied_spelled, panel_spelled, plain_spelled, reply_spelled, sound_of}
use Rattle.line_fields.proofs.Joined.{HasFields}
use Rattle.face_reading.proofs.EntryFields.{fields_of, joined}
use Rattle.face_reading.proofs.NamedThings.{below_back}
use Rattle.line_fields.specs.Numbers.{number_below}
use Rattle.line_fields.specs.Words.{truth_of}
use Rattle.line_fields.proofs.PlainFields.{are_plain, decimal_plain, is_plain}
use Rattle.face_reading.proofs.SpelledLines.{IsSpelled, IsTold, state_back, state_line, state_of, state_plain, thing_told, told_spelled}

-- ---- delays, buzzer, counter and busy panels

-- a word and one field more
one_more : (panel word last : List ℕ) → (panel ++ (32 ∷ (word ++ 32 ∷ []))) ++ (last ++ 10 ∷ []) ≡ (panel ++ (32 ∷ (word ++ (32 ∷ (last ++ [])))))
    ++ 10 ∷ []
one_more panel word last = simp (append_assoc, append-nil)

one_plain : (last : List ℕ) → list_all is_plain last ≡ true → are_plain (last ∷ []) ≡ true
one_plain last plain = and_from (list_all is_plain last) true plain refl

delays_row : (site : Site) (panel : ℕ) (text : List ℕ) → field 1 text ≡ codes "delays" →
    panel_spelled site panel text ≡ option_map (λ change. ChangeEntry panel change) (option_map (λ on. DelaysChange on) (truth_of (field 2 text)))
delays_row site panel text is = rw is refl

delays_told : (site : Site) (panel : ℕ) (on : Bool) → IsTold site panel (delays_line panel (number_of_truth on)) (ChangeEntry panel (DelaysChange on))
delays_told site panel on = record {
  fields = codes "delays" ∷ state_of on ∷ [];
  others = one_plain (state_of on) (state_plain on);
  line_is =
      ap (λ t. decimal panel ++ codes " delays" ++ t) (state_line on) ∙ append_assoc (decimal panel) (codes " delays") (32 ∷ (state_of on ++ 10 ∷ []))
      ∙ sym (append_assoc (decimal panel) (codes " delays ") (state_of on ++ 10 ∷ [])) ∙ one_more (decimal panel) (codes "delays") (state_of on);
  spelled = λ text has. delays_row site panel text (has.at 1)
      ∙ ap (λ t. option_map (λ change. ChangeEntry panel change) (option_map (λ o. DelaysChange o) t)) (ap truth_of (has.at 2) ∙ state_back on);
}

sound_word : Buzzer → List ℕ
sound_word Off = codes "off"
sound_word Fault = codes "fault"
sound_word Fire = codes "fire"

sound_line : (sound : Buzzer) → buzzer_word (number_of_buzzer sound) ≡ sound_word sound ++ 10 ∷ []
unfolding sound_word
sound_line Off = refl
sound_line Fault = refl
sound_line Fire = refl

sound_plain : (sound : Buzzer) → list_all is_plain (sound_word sound) ≡ true
unfolding sound_word
sound_plain Off = refl
sound_plain Fault = refl
sound_plain Fire = refl

sound_back : (sound : Buzzer) → sound_of (sound_word sound) ≡ Some sound
unfolding sound_word
sound_back Off = refl
sound_back Fault = refl
sound_back Fire = refl

buzzer_row : (site : Site) (panel : ℕ) (text : List ℕ) → field 1 text ≡ codes "buzzer" →
    panel_spelled site panel text ≡ option_map (λ change. ChangeEntry panel change)
    (option_map (λ sound. BuzzerChange sound) (sound_of (field 2 text)))
buzzer_row site panel text is = rw is refl

buzzer_told : (site : Site) (panel : ℕ) (sound : Buzzer)
    → IsTold site panel (buzzer_line panel (number_of_buzzer sound)) (ChangeEntry panel (BuzzerChange sound))
buzzer_told site panel sound = record {
  fields = codes "buzzer" ∷ sound_word sound ∷ [];
  others = one_plain (sound_word sound) (sound_plain sound);
  line_is = ap (λ t. decimal panel ++ codes " buzzer " ++ t) (sound_line sound) ∙ one_more (decimal panel) (codes "buzzer") (sound_word sound);
  spelled = λ text has. buzzer_row site panel text (has.at 1)
      ∙ ap (λ t. option_map (λ change. ChangeEntry panel change) (option_map (λ s. BuzzerChange s) t)) (ap sound_of (has.at 2) ∙ sound_back sound);
}

counter_row : (site : Site) (panel : ℕ) (text : List ℕ) → field 1 text ≡ codes "counter" →
    panel_spelled site panel text ≡ option_map (λ change. ChangeEntry panel change)
    (option_map (λ count. CounterChange count) (number_below (2 ^ 32) (field 2 text)))
counter_row site panel text is = rw is refl

-- a number behind a word
number_line : (panel word : List ℕ) (number : ℕ) → panel ++ (32 ∷ (word ++ 32 ∷ [])) ++ decimal number ++ 10
    ∷ [] ≡ (panel ++ (32 ∷ (word ++ (32 ∷ (decimal number ++ []))))) ++ 10 ∷ []
number_line panel word number = append_assoc (panel ++ (32 ∷ (word ++ 32 ∷ []))) (decimal number) (10 ∷ []) ∙ one_more panel word (decimal number)

counter_told : (site : Site) (panel count : ℕ) → count ≤ greatest_count
    → IsTold site panel (counter_line panel count) (ChangeEntry panel (CounterChange count))
counter_told site panel count most =
    let wide : count < 2 ^ 64 = omega (arith, most) in
    record {
      fields = codes "counter" ∷ decimal count ∷ [];
      others = one_plain (decimal count) (decimal_plain count wide);
      line_is = number_line (decimal panel) (codes "counter") count;
      spelled = λ text has. counter_row site panel text (has.at 1)
          ∙ ap (λ t. option_map (λ change. ChangeEntry panel change) (option_map (λ n. CounterChange n) t))
          (ap (number_below (2 ^ 32)) (has.at 2) ∙ below_back (2 ^ 32) count (omega (arith, most)) wide);
    }

busy_row : (site : Site) (panel : ℕ) (text : List ℕ) → field 1 text ≡ codes "busy"
    → panel_spelled site panel text ≡ option_map (λ count. BusyEntry panel count) (number_of (field 2 text))
busy_row site panel text is = rw is refl

busy_told : (site : Site) (panel count : ℕ) → count < 2 ^ 64 → IsTold site panel (counted_line panel count) (BusyEntry panel count)
busy_told site panel count wide = record {
  fields = codes "busy" ∷ decimal count ∷ [];
  others = one_plain (decimal count) (decimal_plain count wide);
  line_is = number_line (decimal panel) (codes "busy") count;
  spelled =
      λ text has. busy_row site panel text (has.at 1) ∙ ap (option_map (λ n. BusyEntry panel n))
      (ap number_of (has.at 2) ∙ number_of-decimal count wide);
}

-- ---- lines that begin with a word

no_number : (word : List ℕ) → number_of word ≡ None → number_below 256 word ≡ None
no_number word is = ap (option_and_then _) is

-- the words that lines begin with are no numbers
op_word : number_of (codes "op") ≡ None
unfolding number_of
op_word = refl

store_word : number_of (codes "store") ≡ None
unfolding number_of
store_word = refl

tick_word : number_of (codes "tick") ≡ None
unfolding number_of
tick_word = refl

end_word : number_of (codes "end") ≡ None
unfolding number_of
end_word = refl

-- what such a line needs to be spelled
worded : (site : Site) (entry : Entry) (word : List ℕ) (fields : List (List ℕ)) → number_of word ≡ None → list_all is_plain word ≡ true
    → are_plain fields ≡ true → entry_line site entry ≡ joined word fields ++ 10 ∷ [] →
    ((text : List ℕ) → HasFields text word fields → plain_spelled text ≡ Some entry) → IsSpelled site entry
worded site entry word fields none plain others line_is spelled =
    let text = joined word fields in
    let has = fields_of word fields plain others in
    record {
      word = word;
      fields = fields;
      plain = plain;
      others = others;
      line_is = line_is;
      spelled = ap (by_panel site text) (ap (number_below 256) (has.at 0) ∙ no_number word none) ∙ spelled text has;
    }

store_row : (text : List ℕ) → field 0 text ≡ codes "store" → plain_spelled text ≡ Some StoreFailed
store_row text is = rw is refl

store_spelled : (site : Site) → IsSpelled site StoreFailed
store_spelled site = worded site StoreFailed (codes "store") (codes "failed" ∷ []) store_word refl refl refl (λ text has. store_row text (has.at 0))

tick_row : (text : List ℕ) → field 0 text ≡ codes "tick"
    → plain_spelled text ≡ option_map (λ number. TickEntry (record { 0 = number })) (number_of (field 1 text))
tick_row text is = rw is refl

tick_spelled : (site : Site) (number : ℕ) → number < 2 ^ 64 → IsSpelled site (TickEntry (record { 0 = number }))
tick_spelled site number wide =
    worded site (TickEntry (record { 0 = number })) (codes "tick") (decimal number ∷ []) tick_word refl
    (one_plain (decimal number) (decimal_plain number wide))
    (ap (λ t. codes "tick " ++ t ++ 10 ∷ []) (sym (append-nil (decimal number))))
    (λ text has. tick_row text (has.at 0) ∙ ap (option_map (λ n. TickEntry (record { 0 = n })))
    (ap number_of (has.at 1) ∙ number_of-decimal number wide))

end_row : (text : List ℕ) → field 0 text ≡ codes "end"
    → plain_spelled text ≡ option_map (λ number. EndEntry (record { 0 = number })) (number_of (field 1 text))
end_row text is = rw is refl

end_spelled : (site : Site) (number : ℕ) → number < 2 ^ 64 → IsSpelled site (EndEntry (record { 0 = number }))
end_spelled site number wide =
    worded site (EndEntry (record { 0 = number })) (codes "end") (decimal number ∷ []) end_word refl
    (one_plain (decimal number) (decimal_plain number wide))
    (ap (λ t. codes "end " ++ t ++ 10 ∷ []) (sym (append-nil (decimal number))))
    (λ text has. end_row text (has.at 0) ∙ ap (option_map (λ n. EndEntry (record { 0 = n })))
    (ap number_of (has.at 1) ∙ number_of-decimal number wide))

-- ---- answers

-- the fields of a reply, behind the number of its operation
abbrev pub reply_fields : Reply → List (List ℕ)
reply_fields Done = codes "done" ∷ []
reply_fields (Denied needs has) = codes "denied" ∷ codes "needs" ∷ decimal needs ∷ codes "has" ∷ decimal has ∷ []
reply_fields Waiting = codes "waiting" ∷ []
reply_fields Already = codes "already" ∷ []
reply_fields Store = codes "store" ∷ []

-- what a reply needs to be spelled
record IsReplySpelled (reply : Reply) : Type 0 where
  pub others : are_plain (reply_fields reply) ≡ true
  pub line_is : (number : List ℕ) → codes "op " ++ number ++ reply_words reply ≡ joined (codes "op") (number ∷ reply_fields reply) ++ 10 ∷ []
  pub spelled : (text number : List ℕ) → HasFields text (codes "op") (number ∷ reply_fields reply) → reply_spelled text ≡ Some reply

word_line : (number word : List ℕ) → number ++ (32 ∷ (word ++ 10 ∷ [])) ≡ (number ++ (32 ∷ (word ++ []))) ++ 10 ∷ []
word_line number word = simp (append_assoc, append-nil)

denied_line : (number needs has : List ℕ) →
    number ++ (codes " denied needs " ++ needs ++ codes " has " ++ has ++ 10 ∷ [])
    ≡ (number ++ (codes " denied needs " ++ (needs ++ (codes " has " ++ (has ++ []))))) ++ 10 ∷ []
denied_line number needs has = simp (append_assoc, append-nil)

done_row : (text : List ℕ) → field 2 text ≡ codes "done" → reply_spelled text ≡ Some Done
done_row text is = rw is refl

denied_row : (text : List ℕ) → field 2 text ≡ codes "denied" → reply_spelled text ≡ denied_spelled text
denied_row text is = rw is refl

waiting_row : (text : List ℕ) → field 2 text ≡ codes "waiting" → reply_spelled text ≡ Some Waiting
waiting_row text is = rw is refl

already_row : (text : List ℕ) → field 2 text ≡ codes "already" → reply_spelled text ≡ Some Already
already_row text is = rw is refl

stored_row : (text : List ℕ) → field 2 text ≡ codes "store" → reply_spelled text ≡ Some Store
stored_row text is = rw is refl

denied_back : (text : List ℕ) (needs has : ℕ) → number_below 256 (field 4 text) ≡ Some needs → number_below 256 (field 6 text) ≡ Some has
    → denied_spelled text ≡ Some (Denied needs has)
denied_back text needs has one other =
    ap (option_and_then (λ n. option_map (λ h. Denied n h) (number_below 256 (field 6 text)))) one ∙ ap (option_map (λ h. Denied needs h)) other

reply_is : (reply : Reply) → IsReply reply → IsReplySpelled reply
reply_is Done form = record {
  others = refl;
  line_is = λ number. ap (λ t. codes "op " ++ t) (word_line number (codes "done"));
  spelled =
      λ text number has. done_row text (has.at 2);
}
reply_is (Denied needs has) form =
    let small : needs < 256 = omega (arith, form.1) in
    let least : has < 256 = omega (arith, form.1, form.2) in
    let wide : needs < 2 ^ 64 = omega (arith, small) in
    let wide_too : has < 2 ^ 64 = omega (arith, least) in
    record {
      others =
          and_from (list_all is_plain (decimal needs)) (list_all is_plain (decimal has) && true) (decimal_plain needs wide)
          (one_plain (decimal has) (decimal_plain has wide_too));
      line_is = λ number. ap (λ t. codes "op " ++ t) (denied_line number (decimal needs) (decimal has));
      spelled = λ text number fields. denied_row text (fields.at 2)
          ∙ denied_back text needs has (ap (number_below 256) (fields.at 4) ∙ below_back 256 needs small wide)
          (ap (number_below 256) (fields.at 6) ∙ below_back 256 has least wide_too);
    }
reply_is Waiting form = record {
  others = refl;
  line_is = λ number. ap (λ t. codes "op " ++ t) (word_line number (codes "waiting"));
  spelled =
      λ text number has. waiting_row text (has.at 2);
}
reply_is Already form = record {
  others = refl;
  line_is = λ number. ap (λ t. codes "op " ++ t) (word_line number (codes "already"));
  spelled =
      λ text number has. already_row text (has.at 2);
}
reply_is Store form = record {
  others = refl;
  line_is = λ number. ap (λ t. codes "op " ++ t) (word_line number (codes "store"));
  spelled =
      λ text number has. stored_row text (has.at 2);
}

op_row : (text : List ℕ) → field 0 text ≡ codes "op" → plain_spelled text ≡ answer_spelled text
op_row text is = rw is refl

answer_back : (text : List ℕ) (number : ℕ) (reply : Reply) → number_of (field 1 text) ≡ Some number → reply_spelled text ≡ Some reply
    → answer_spelled text ≡ Some (AnswerEntry (record { number = number; reply = reply }))
answer_back text number reply one other =
    ap (option_and_then (λ n. option_map (λ r. AnswerEntry (record { number = n; reply = r })) (reply_spelled text))) one ∙ ap
    (option_map (λ r. AnswerEntry (record { number = number; reply = r }))) other

answer_told : (site : Site) (number : ℕ) (reply : Reply) → number < 2 ^ 64 → IsReply reply
    → IsSpelled site (AnswerEntry (record { number = number; reply = reply }))
answer_told site number reply wide form =
    let is = reply_is reply form in
    worded site (AnswerEntry (record { number = number; reply = reply })) (codes "op") (decimal number ∷ reply_fields reply) op_word refl
    (and_from (list_all is_plain (decimal number)) (are_plain (reply_fields reply)) (decimal_plain number wide) is.others)
    (is.line_is (decimal number))
    (λ text has. op_row text (has.at 0) ∙ answer_back text number reply (ap number_of (has.at 1) ∙ number_of-decimal number wide)
    (is.spelled text (decimal number) has))

-- ---- all entries

name_there : (found : Option (List ℕ)) → IsTrue (is_named found) → (name : List ℕ) × (found ≡ Some name)
name_there None is = cc
name_there (Some name) is = (name, refl)

change_told : (site : Site) → IsValid site → (panel : ℕ) (change : Change) → IsChange site panel change
    → IsTold site panel (line_of site panel (slot_of change) (value_of change)) (ChangeEntry panel change)
change_told site valid panel (ThingChange group number on) is =
    let name = name_there (name_in site panel group number) is.3 in
    thing_told site valid panel group number on name.0 is.2 name.1
change_told site valid panel (DelaysChange on) is = delays_told site panel on
change_told site valid panel (BuzzerChange sound) is = buzzer_told site panel sound
change_told site valid panel (CounterChange count) is = counter_told site panel count is

-- panels are few
few_panels : (site : Site) → IsValid site → (panel : ℕ) → panel ≤ site.panels → panel < 256
few_panels site valid panel within = omega (arith, within, valid.forms.panels.1)

pub entry_is : (site : Site) → IsValid site → (entry : Entry) → IsEntry site entry → IsSpelled site entry
entry_is site valid (ChangeEntry panel change) is =
    told_spelled site panel (ChangeEntry panel change) (few_panels site valid panel is.1) (change_told site valid panel change is.2)
entry_is site valid (AnswerEntry answer) is = answer_told site answer.number answer.reply is.0 is.1
entry_is site valid (BusyEntry panel count) is =
    told_spelled site panel (BusyEntry panel count) (few_panels site valid panel is.1) (busy_told site panel count is.3)
entry_is site valid StoreFailed is = store_spelled site
entry_is site valid (TickEntry tick) is = tick_spelled site tick.0 is
entry_is site valid (EndEntry tick) is = end_spelled site tick.0 is
