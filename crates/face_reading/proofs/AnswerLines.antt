-- What is answered in a tick, line by line: operations by number, busy panels, the store.
use Rattle.std.proofs.Common.{◌≡◌, ◌≢◌, ◌∙◌, ◌⊎◌, ◌<◌, ◌≤◌, ◌+◌, ◌-◌, ◌^◌, ◌++◌, ℕ, zero, suc, List, [], ◌∷◌, Bool}
use Rattle.std.proofs.Common.{true, false, length, refl, sym, ap, subst, inl, inr, append_assoc, arith, get_or, set}
use Rattle.std.proofs.Common.{replicate}
use Rattle.std.specs.Prelude.{slice_index}
use Rattle.std.specs.List.{flat_map}
use Rattle.std.proofs.lemmas.Bool.{cases_eq, ne_eqb}
use Rattle.std.proofs.lemmas.List.{append-nil, get_or-set_other, get_or-set_same, length-append, length-set}
use Rattle.std.proofs.lemmas.List.Concat.{flat_map-append}
use Rattle.site_types.specs.declared.site.Site.{Site}
use Rattle.face_text.specs.declared.answers.Answers.{Answers}
use Rattle.face_text.specs.declared.op_answer.OpAnswer.{OpAnswer}
use Rattle.face_text.specs.Answers.{answer_line, answers_text, busy_line, busy_text, counted_line, failed_text}
use Rattle.face_text.specs.Timelines.{AreAnswers, AreOpAnswers, HasAnswer, IsReply}
use Rattle.face_reading.specs.Reading.{no_answers}

-- ---- operations

-- numbers rise, from some bound on, and stay below an end
abbrev pub AreOpsUpTo : ℕ → ℕ → List OpAnswer → Type 0
AreOpsUpTo bound end [] = bound ≤ end
AreOpsUpTo bound end (answer ∷ answers) = (bound ≤ answer.number) × (answer.number < 2 ^ 64) × IsReply answer.reply
    × AreOpsUpTo (suc answer.number) end answers

pub ops_bound : (bound end : ℕ) (ops : List OpAnswer) → AreOpsUpTo bound end ops → bound ≤ end
ops_bound bound end [] are = are
ops_bound bound end (answer ∷ answers) are = omega (arith, are.0, ops_bound (suc answer.number) end answers are.3)

pub ops_more : (bound end : ℕ) (ops : List OpAnswer) (answer : OpAnswer) → AreOpsUpTo bound end ops → end ≤ answer.number → answer.number < 2 ^ 64
    → IsReply answer.reply →
    AreOpsUpTo bound (suc answer.number) (ops ++ answer ∷ [])
ops_more bound end [] answer are less small reply = (omega (arith, are, less), small, reply, omega arith)
ops_more bound end (first ∷ ops) answer are less small reply =
    (are.0, are.1, are.2, ops_more (suc first.number) end ops answer are.3 less small reply)

pub ops_later : (bound end later : ℕ) (ops : List OpAnswer) → AreOpsUpTo bound end ops → end ≤ later → AreOpsUpTo bound later ops
ops_later bound end later [] are less = omega (arith, are, less)
ops_later bound end later (answer ∷ answers) are less = (are.0, are.1, are.2, ops_later (suc answer.number) end later answers are.3 less)

pub ops_are : (bound end : ℕ) (ops : List OpAnswer) → AreOpsUpTo bound end ops → AreOpAnswers bound ops
ops_are bound end [] are = tt
ops_are bound end (answer ∷ answers) are = (are.0, are.1, are.2, ops_are (suc answer.number) end answers are.3)

pub no_ops_below : (bound : ℕ) (ops : List OpAnswer) → AreOpsUpTo bound 0 ops → ops ≡ []
no_ops_below bound [] are = refl
no_ops_below bound (answer ∷ answers) are = absurd (omega (arith, ops_bound (suc answer.number) 0 answers are.3))

-- ---- busy panels

-- the lines of busy panels from one on
abbrev pub busy_from : ℕ → List ℕ → List ℕ
busy_from panel [] = []
busy_from panel (count ∷ counts) = busy_line panel count ++ busy_from (suc panel) counts

pub busy_from_first : (busy : List ℕ) → length busy ≡ 8 → busy_text busy ≡ busy_from 1 busy
unfolding busy_text
busy_from_first [] e = cc
busy_from_first (a ∷ []) e = absurd (omega (arith, e))
busy_from_first (a ∷ b ∷ []) e = absurd (omega (arith, e))
busy_from_first (a ∷ b ∷ c ∷ []) e = absurd (omega (arith, e))
busy_from_first (a ∷ b ∷ c ∷ d ∷ []) e = absurd (omega (arith, e))
busy_from_first (a ∷ b ∷ c ∷ d ∷ f ∷ []) e = absurd (omega (arith, e))
busy_from_first (a ∷ b ∷ c ∷ d ∷ f ∷ g ∷ []) e = absurd (omega (arith, e))
busy_from_first (a ∷ b ∷ c ∷ d ∷ f ∷ g ∷ h ∷ []) e = absurd (omega (arith, e))
busy_from_first (a ∷ b ∷ c ∷ d ∷ f ∷ g ∷ h ∷ i ∷ []) e = refl
busy_from_first (a ∷ b ∷ c ∷ d ∷ f ∷ g ∷ h ∷ i ∷ j ∷ rest) e = absurd (omega (arith, e))

no_busy_line : (panel count : ℕ) → count ≡ 0 → busy_line panel count ≡ []
no_busy_line panel count none = rw none refl

some_busy_line : (panel count : ℕ) → 1 ≤ count → busy_line panel count ≡ counted_line panel count
some_busy_line panel count some = rw (ne_eqb count 0 (λ e. omega (arith, e, some))) refl

pub none_busy_from : (panel : ℕ) (counts : List ℕ) → ((place : ℕ) → get_or counts place 0 ≡ 0) → busy_from panel counts ≡ []
none_busy_from panel [] none = refl
none_busy_from panel (count ∷ counts) none =
    let here : count ≡ 0 = none 0 in
    rw (no_busy_line panel count here) (none_busy_from (suc panel) counts (λ place. none (suc place)))

busy_from_more : (panel place count : ℕ) (counts : List ℕ) → place < length counts → 1 ≤ count → ((k : ℕ) → place ≤ k → get_or counts k 0 ≡ 0) →
    busy_from panel (set counts place count) ≡ busy_from panel counts ++ counted_line (panel + place) count
busy_from_more panel place count [] within some none = absurd (omega (arith, within))
busy_from_more panel zero count (x ∷ counts) within some none =
    let here : x ≡ 0 = none 0 (omega arith) in
    let rest : busy_from (suc panel) counts ≡ [] = none_busy_from (suc panel) counts (λ k. none (suc k) (omega arith)) in
    let at : panel + zero ≡ panel = omega arith in
    rw (rest, no_busy_line panel x here, at, some_busy_line panel count some) (append-nil _)
busy_from_more panel (suc place) count (x ∷ counts) within some none =
    let at : suc panel + place ≡ panel + suc place = omega arith in
    ap (λ t. busy_line panel x ++ t)
    (busy_from_more (suc panel) place count counts (omega (arith, within)) some (λ k less. none (suc k) (omega (arith, less)))
    ∙ ap (λ (p : ℕ). busy_from (suc panel) counts ++ counted_line p count) at)
    ∙ sym (append_assoc (busy_line panel x) (busy_from (suc panel) counts) (counted_line (panel + suc place) count))

pub busy_more : (place count : ℕ) (busy : List ℕ) → length busy ≡ 8 → place < 8 → 1 ≤ count → ((k : ℕ) → place ≤ k → get_or busy k 0 ≡ 0) →
    busy_text (set busy place count) ≡ busy_text busy ++ counted_line (1 + place) count
busy_more place count busy size within some none =
    busy_from_first (set busy place count) (length-set busy place count ∙ size)
    ∙ busy_from_more 1 place count busy (omega (arith, size, within)) some none
    ∙ ap (λ t. t ++ counted_line (1 + place) count) (sym (busy_from_first busy size))

-- ---- all answers of a tick whose last line has a place

pub record AreAnswersTold (site : Site) (rank : ℕ) (answers : Answers) : Type 0 where
  pub ops : AreOpsUpTo 0 (rank - 999999) answers.ops
  pub few : length answers.ops ≤ 64
  pub panels : length answers.busy ≡ 8
  pub counts : (place : ℕ) → get_or answers.busy place 0 < 2 ^ 64
  pub no_other : (place : ℕ) → site.panels ≤ place → get_or answers.busy place 0 ≡ 0
  pub not_busy : (place : ℕ) → rank < 1000000 + 2 ^ 64 + (place + 1) → get_or answers.busy place 0 ≡ 0
  pub not_failed : rank < 1000000 + 2 ^ 64 + 9 → answers.failed ≡ false

pub answers_are : (site : Site) (rank : ℕ) (answers : Answers) → AreAnswersTold site rank answers → AreAnswers site answers
answers_are site rank answers told =
    record {
      ops = ops_are 0 (rank - 999999) answers.ops told.ops;
      few = told.few;
      panels = told.panels;
      counts = told.counts;
      no_other = told.no_other;
    }

zeros_are : (n place : ℕ) → slice_index (replicate n 0) place ≡ 0
zeros_are zero place = refl
zeros_are (suc n) zero = refl
zeros_are (suc n) (suc place) = zeros_are n place

pub nothing_answered : (site : Site) → AreAnswersTold site 0 no_answers
nothing_answered site =
    record {
      ops = omega arith;
      few = omega arith;
      panels = refl;
      counts = λ place. rw (zeros_are 8 place) (omega arith);
      no_other = λ place past. zeros_are 8 place;
      not_busy = λ place low. zeros_are 8 place;
      not_failed = λ low. refl;
    }

pub later_answers : (site : Site) (rank later : ℕ) (answers : Answers) → rank ≤ later → AreAnswersTold site rank answers
    → AreAnswersTold site later answers
later_answers site rank later answers less told =
    record {
      ops = ops_later 0 (rank - 999999) (later - 999999) answers.ops told.ops (omega (arith, less));
      few = told.few;
      panels = told.panels;
      counts = told.counts;
      no_other = told.no_other;
      not_busy = λ place low. told.not_busy place (omega (arith, less, low));
      not_failed = λ low. told.not_failed (omega (arith, less, low));
    }

-- ---- their text

pub no_busy_text : (site : Site) (rank : ℕ) (answers : Answers) → AreAnswersTold site rank answers → rank ≤ 1000000 + 2 ^ 64
    → busy_text answers.busy ≡ []
no_busy_text site rank answers told low =
    busy_from_first answers.busy told.panels ∙ none_busy_from 1 answers.busy (λ place. told.not_busy place (omega (arith, low)))

not_failed_text : (failed : Bool) → failed ≡ false → failed_text failed ≡ []
not_failed_text failed e = rw e refl

pub nothing_answered_text : (site : Site) (rank : ℕ) (answers : Answers) → AreAnswersTold site rank answers → rank < 1000000
    → answers_text answers ≡ []
nothing_answered_text site rank answers told low =
    let end : rank - 999999 ≡ 0 = omega (arith, low) in
    let ops : answers.ops ≡ [] = no_ops_below 0 answers.ops (subst (λ (e : ℕ). AreOpsUpTo 0 e answers.ops) end told.ops) in
    rw (ops, no_busy_text site rank answers told (omega (arith, low)), not_failed_text answers.failed (told.not_failed (omega (arith, low)))) refl

-- one more answer
pub answer_told : (site : Site) (rank : ℕ) (answers : Answers) (answer : OpAnswer) → AreAnswersTold site rank answers
    → rank < 1000000 + answer.number →
    answer.number < 2 ^ 64 → IsReply answer.reply → length answers.ops < 64 →
    AreAnswersTold site (1000000 + answer.number) (record answers { ops = answers.ops ++ answer ∷ [] })
    × (answers_text (record answers { ops = answers.ops ++ answer ∷ [] }) ≡ answers_text answers ++ answer_line answer)
answer_told site rank answers answer told less small reply room =
    let busy : busy_text answers.busy ≡ [] = no_busy_text site rank answers told (omega (arith, less, small)) in
    let failed : failed_text answers.failed ≡ [] = not_failed_text answers.failed (told.not_failed (omega (arith, less, small))) in
    let end : suc answer.number ≡ 1000000 + answer.number - 999999 = omega arith in (
      record {
        ops = subst (λ (e : ℕ). AreOpsUpTo 0 e (answers.ops ++ answer ∷ [])) end (ops_more 0 (rank - 999999) answers.ops answer told.ops (omega (arith, less)) small reply);
        few = omega (arith, length-append answers.ops (answer ∷ []), room);
        panels = told.panels;
        counts = told.counts;
        no_other = told.no_other;
        not_busy = λ place low. told.not_busy place (omega (arith, less, low));
        not_failed = λ low. told.not_failed (omega (arith, less, low));
      },
      rw (busy, failed, flat_map-append answer_line answers.ops (answer ∷ []))
          (append-nil _ ∙ append-nil _ ∙ ap (λ t. flat_map answer_line answers.ops ++ t) (append-nil (answer_line answer))
          ∙ ap (λ t. t ++ answer_line answer)
          (sym (append-nil (flat_map answer_line answers.ops ++ []) ∙ append-nil (flat_map answer_line answers.ops)))),
    )

one_busy : (busy : List ℕ) (at place count : ℕ) (P : ℕ → Type 0) → (at ≡ place → P count) → ((at ≡ place → ⊥) → P (get_or busy place 0))
    → at < length busy → P (get_or (set busy at count) place 0)
one_busy busy at place count P here there within =
    elim (cases_eq at place) [
      | inl e ↦ subst P (sym (ap (λ (k : ℕ). get_or (set busy at count) k 0) (sym e) ∙ get_or-set_same busy at count 0 within)) (here e)
      | inr ne ↦ subst P (sym (get_or-set_other busy at place count 0 (λ e. ne (sym e)))) (there ne)
    ]

-- one more busy panel
pub busy_told : (site : Site) (rank panel count : ℕ) (answers : Answers) → AreAnswersTold site rank answers → site.panels ≤ 8 → 1 ≤ panel
    → panel ≤ site.panels →
    1 ≤ count → count < 2 ^ 64 → rank < 1000000 + 2 ^ 64 + panel →
    AreAnswersTold site (1000000 + 2 ^ 64 + panel) (record answers { busy = set answers.busy (panel - 1) count })
    × (answers_text (record answers { busy = set answers.busy (panel - 1) count }) ≡ answers_text answers ++ counted_line panel count)
busy_told site rank panel count answers told eight from to some small less =
    let failed : failed_text answers.failed ≡ [] = not_failed_text answers.failed (told.not_failed (omega (arith, less, to, eight))) in
    let at : 1 + (panel - 1) ≡ panel = omega (arith, from) in
    let size : length answers.busy ≡ 8 = told.panels in
    let within : panel - 1 < length answers.busy = omega (arith, size, to, eight) in
    let more =
    busy_more (panel - 1) count answers.busy size (omega (arith, to, from, eight)) some (λ k past. told.not_busy k (omega (arith, less, past))) in
    let text : busy_text (set answers.busy (panel - 1) count) ≡ busy_text answers.busy ++ counted_line panel count =
    more ∙ ap (λ (p : ℕ). busy_text answers.busy ++ counted_line p count) at in (
      record {
        ops = ops_later 0 (rank - 999999) (1000000 + 2 ^ 64 + panel - 999999) answers.ops told.ops (omega (arith, less));
        few = told.few;
        panels = length-set answers.busy (panel - 1) count ∙ size;
        counts = λ place. one_busy answers.busy (panel - 1) place count (λ x. x < 2 ^ 64) (λ e. small) (λ ne. told.counts place) within;
        no_other =
            λ place past. one_busy answers.busy (panel - 1) place count (λ x. x ≡ 0) (λ e. absurd (omega (arith, e, past, from, to)))
            (λ ne. told.no_other place past) within;
        not_busy =
            λ place low. one_busy answers.busy (panel - 1) place count (λ x. x ≡ 0) (λ e. absurd (omega (arith, e, low, from)))
            (λ ne. told.not_busy place (omega (arith, less, low))) within;
        not_failed = λ low. told.not_failed (omega (arith, less, to, eight));
      },
      rw (failed, text)
          (append-nil _ ∙ sym (append_assoc (flat_map answer_line answers.ops) (busy_text answers.busy) (counted_line panel count))
          ∙ ap (λ t. t ++ counted_line panel count) (sym (append-nil (flat_map answer_line answers.ops ++ busy_text answers.busy)))),
    )

-- Keep's turn failed
pub failure_told : (site : Site) (rank : ℕ) (answers : Answers) → AreAnswersTold site rank answers → rank < 1000000 + 2 ^ 64 + 9 →
    AreAnswersTold site (1000000 + 2 ^ 64 + 9) (record answers { failed = true })
    × (answers_text (record answers { failed = true }) ≡ answers_text answers ++ failed_text true)
failure_told site rank answers told less =
    let failed : failed_text answers.failed ≡ [] = not_failed_text answers.failed (told.not_failed less) in (
      record {
        ops = ops_later 0 (rank - 999999) (1000000 + 2 ^ 64 + 9 - 999999) answers.ops told.ops (omega (arith, less));
        few = told.few;
        panels = told.panels;
        counts = told.counts;
        no_other = told.no_other;
        not_busy = λ place low. told.not_busy place (omega (arith, less, low));
        not_failed = λ low. absurd (omega (arith, low));
      },
      rw failed (ap (λ t. t ++ failed_text true) (sym (append-nil (flat_map answer_line answers.ops ++ busy_text answers.busy)))),
    )

-- ---- whether something was answered

some_count : (counts : List ℕ) → ((place : ℕ) × (get_or counts place 0 ≢ 0)) ⊎ ((place : ℕ) → get_or counts place 0 ≡ 0)
some_count [] = inr (λ place. refl)
some_count (count ∷ counts) =
    elim (cases_eq count 0) [
      | inl e ↦ elim (some_count counts) [ inl some ↦ inl (suc some.0, some.1) | inr none ↦ inr (both count counts e none) ]
      | inr ne ↦ inl (0, ne)
    ]
  where
    both : (first : ℕ) (rest : List ℕ) → first ≡ 0 → ((place : ℕ) → get_or rest place 0 ≡ 0) → (place : ℕ) → get_or (first ∷ rest) place 0 ≡ 0
    both first rest e none zero = e
    both first rest e none (suc place) = none place

no_text : (answers : Answers) → length answers.busy ≡ 8 → answers.ops ≡ [] → ((place : ℕ) → get_or answers.busy place 0 ≡ 0) → answers.failed ≡ false
    → answers_text answers ≡ []
no_text answers size ops none failed =
    rw (ops, busy_from_first answers.busy size ∙ none_busy_from 1 answers.busy none, not_failed_text answers.failed failed) refl

ops_or_none : (ops : List OpAnswer) → (ops ≢ []) ⊎ (ops ≡ [])
ops_or_none [] = inr refl
ops_or_none (answer ∷ answers) = inl (λ e. cc)

-- answers that have a text have an answer
pub answered_or_not : (answers : Answers) → length answers.busy ≡ 8 → HasAnswer answers ⊎ (answers_text answers ≡ [])
answered_or_not answers size =
    elim (ops_or_none answers.ops) [
      | inl some ↦ inl (inl some)
      | inr none ↦
          elim (some_count answers.busy) [
            | inl some ↦ inl (inr (inl some))
            | inr free ↦ by_store answers.failed refl none free
          ]
    ]
  where
    by_store : (failed : Bool) → answers.failed ≡ failed → answers.ops ≡ [] → ((place : ℕ) → get_or answers.busy place 0 ≡ 0)
        → HasAnswer answers ⊎ (answers_text answers ≡ [])
    by_store true e none free = inl (inr (inr e))
    by_store false e none free = inr (no_text answers size none free e)
