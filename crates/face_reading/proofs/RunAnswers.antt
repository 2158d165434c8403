-- What is answered in a tick, line by line: told one behind another the lines lead to the answers.
use Rattle.std.proofs.Common.{◌≡◌, ◌∙◌, ◌⊎◌, ◌<◌, ◌≤◌, ◌+◌, ◌-◌, ◌^◌, ◌++◌, ◌==◌, ℕ, suc, Bool, true, false, List, []}
use Rattle.std.proofs.Common.{◌∷◌, Some, length, refl, sym, ap, subst, inl, inr, append_assoc, arith, get_or}
use Rattle.std.proofs.Common.{replicate, if◌then◌else◌}
use Rattle.std.specs.Prelude.{nat_lt}
use Rattle.std.proofs.lemmas.Bool.{cases_eq, cases_lt, eq-eqb, lt-ltb, ne_eqb}
use Rattle.std.proofs.lemmas.List.{append-nil, length-append, set_at}
use Rattle.site_types.specs.declared.site.Site.{Site}
use Rattle.face_text.specs.declared.answers.Answers.{Answers}
use Rattle.face_text.specs.declared.op_answer.OpAnswer.{OpAnswer}
use Rattle.face_text.specs.Timelines.{AreAnswers, AreOpAnswers}
use Rattle.face_reading.specs.declared.entry.Entry.{Entry}
use Rattle.face_reading.specs.declared.entry.Entry.TheVariants.{Answer as AnswerEntry, Busy as BusyEntry, StoreFailed}
use Rattle.face_reading.specs.Reading.{Told, told_next}
use Rattle.face_reading.proofs.ReadSoFar.{AreEntries, told_after}
use Rattle.face_reading.proofs.RunChanges.{entries_join, leads_first, leads_on}

-- ---- what is answered

-- with other answers and another last place
abbrev pub answering : Told → List OpAnswer → List ℕ → Bool → ℕ → Told
answering told ops busy failed rank =
    record {
      opened = told.opened;
      steps = told.steps;
      tick = told.tick;
      faces = told.faces;
      answers =
          record { ops = ops; busy = busy; failed = failed };
      rank = rank;
    }

pub record LeadsToAnswers (told : Told) (ops more : List OpAnswer) (busy counts : List ℕ) (failed fails : Bool) (rank last : ℕ) (entries : List Entry)
    : Type 0 where
  pub end : ℕ
  pub low : end < last
  pub leads : told_after (answering told ops busy failed rank) entries ≡ Some (answering told more counts fails end)

abbrev pub op_entries : List OpAnswer → List Entry
op_entries [] = []
op_entries (answer ∷ answers) = AnswerEntry answer ∷ op_entries answers

pub op_entries_are : (site : Site) (bound : ℕ) (ops : List OpAnswer) → AreOpAnswers bound ops → AreEntries site (op_entries ops)
op_entries_are site bound [] are = tt
op_entries_are site bound (answer ∷ answers) are = ((are.1, are.2), op_entries_are site (suc answer.number) answers are.3)

op_leads : (told : Told) (ops : List OpAnswer) (busy : List ℕ) (failed : Bool) (rank : ℕ) (answer : OpAnswer) → 0 < told.tick.0
    → rank < 1000000 + answer.number → length ops < 64 →
    told_next (answering told ops busy failed rank) (AnswerEntry answer)
    ≡ Some (answering told (ops ++ answer ∷ []) busy failed (1000000 + answer.number))
op_leads told ops busy failed rank answer ticking less room =
    let tick : nat_lt 0 told.tick.0 ≡ true = lt-ltb 0 told.tick.0 ticking in
    let comes : nat_lt rank (1000000 + answer.number) ≡ true = lt-ltb rank (1000000 + answer.number) less in
    let few : nat_lt (length ops) 64 ≡ true = lt-ltb (length ops) 64 room in rw (tick, comes, few) refl

pub ops_lead : (told : Told) (done ops : List OpAnswer) (busy : List ℕ) (failed : Bool) (bound rank : ℕ) → 0 < told.tick.0 → AreOpAnswers bound ops
    → bound ≤ 2 ^ 64 → rank < 1000000 + bound →
    length done + length ops ≤ 64 → LeadsToAnswers told done (done ++ ops) busy busy failed failed rank (1000000 + 2 ^ 64) (op_entries ops)
ops_lead told done [] busy failed bound rank ticking are small less few =
    record {
      end = rank;
      low = omega (arith, small, less);
      leads = ap (λ (all : List OpAnswer). Some (answering told all busy failed rank)) (sym (append-nil done));
    }
ops_lead told done (answer ∷ answers) busy failed bound rank ticking are small less few =
    let rest =
    ops_lead told (done ++ answer ∷ []) answers busy failed (suc answer.number) (1000000 + answer.number) ticking are.3 (omega (arith, are.1))
    (omega arith)
    (omega (arith, few, length-append done (answer ∷ []))) in
    record {
      end = rest.end;
      low = rest.low;
      leads =
          leads_first (answering told done busy failed rank) (answering told (done ++ answer ∷ []) busy failed (1000000 + answer.number))
          (answering told (done ++ answer ∷ answers) busy failed rest.end)
          (AnswerEntry answer) (op_entries answers)
          (op_leads told done busy failed rank answer ticking (omega (arith, less, are.0)) (omega (arith, few)))
          (rest.leads ∙ ap (λ (all : List OpAnswer). Some (answering told all busy failed rest.end)) (append_assoc done (answer ∷ []) answers));
    }

abbrev pub busy_entries : ℕ → List ℕ → List Entry
busy_entries panel [] = []
busy_entries panel (count ∷ counts) = (if count == 0 then [] else BusyEntry panel count ∷ []) ++ busy_entries (suc panel) counts

busy_leads : (told : Told) (ops : List OpAnswer) (front behind : List ℕ) (failed : Bool) (panel rank count : ℕ) → 0 < told.tick.0
    → length front + 1 ≡ panel → rank < 1000000 + 2 ^ 64 + panel →
    told_next (answering told ops (front ++ 0 ∷ behind) failed rank) (BusyEntry panel count)
    ≡ Some (answering told ops (front ++ count ∷ behind) failed (1000000 + 2 ^ 64 + panel))
busy_leads told ops front behind failed panel rank count ticking size less =
    let tick : nat_lt 0 told.tick.0 ≡ true = lt-ltb 0 told.tick.0 ticking in
    let comes : nat_lt rank (1000000 + 2 ^ 64 + panel) ≡ true = lt-ltb rank (1000000 + 2 ^ 64 + panel) less in
    let place : length front ≡ panel - 1 = omega (arith, size) in rw (tick, comes, set_at front 0 behind count (panel - 1) place) refl

busy_joined : (told : Told) (ops : List OpAnswer) (front : List ℕ) (count : ℕ) (behind counts : List ℕ) (failed : Bool) (rank end : ℕ) (entries :
    List Entry) →
    told_after (answering told ops ((front ++ count ∷ []) ++ behind) failed rank) entries
    ≡ Some (answering told ops ((front ++ count ∷ []) ++ counts) failed end) →
    told_after (answering told ops (front ++ count ∷ behind) failed rank) entries ≡ Some (answering told ops (front ++ count ∷ counts) failed end)
busy_joined told ops front count behind counts failed rank end entries leads =
    let one : (front ++ count ∷ []) ++ behind ≡ front ++ count ∷ behind = append_assoc front (count ∷ []) behind in
    let other : (front ++ count ∷ []) ++ counts ≡ front ++ count ∷ counts = append_assoc front (count ∷ []) counts in
    subst (λ (busy : List ℕ). told_after (answering told ops busy failed rank) entries
    ≡ Some (answering told ops (front ++ count ∷ counts) failed end)) one
    (subst (λ (busy : List ℕ). told_after (answering told ops ((front ++ count ∷ []) ++ behind) failed rank) entries
    ≡ Some (answering told ops busy failed end)) other leads)

-- the panels behind one, whatever the place of the last line before them
abbrev BusyBehind : Told → List OpAnswer → List ℕ → ℕ → List ℕ → Bool → ℕ → Type 0
BusyBehind told ops front count counts failed panel =
    (rank : ℕ) → rank < 1000000 + 2 ^ 64 + suc panel →
    LeadsToAnswers told ops ops ((front ++ count ∷ []) ++ replicate (length counts) 0) ((front ++ count ∷ []) ++ counts) failed failed rank
    (1000000 + 2 ^ 64 + suc panel + length counts)
    (busy_entries (suc panel) counts)

one_busy_leads : (told : Told) (ops : List OpAnswer) (front : List ℕ) (count : ℕ) (counts : List ℕ) (failed : Bool) (panel rank : ℕ) → 0 < told.tick.0
    → length front + 1 ≡ panel →
    rank < 1000000 + 2 ^ 64 + panel → (count ≡ 0) ⊎ (count ≡ 0 → ⊥) → BusyBehind told ops front count counts failed panel →
    LeadsToAnswers told ops ops (front ++ 0 ∷ replicate (length counts) 0) (front ++ count ∷ counts) failed failed rank
    (1000000 + 2 ^ 64 + panel + suc (length counts)) (busy_entries panel (count ∷ counts))
one_busy_leads told ops front count counts failed panel rank ticking size less (inl none) behind =
    let rest = behind rank (omega (arith, less)) in
    let zeros : List ℕ = replicate (length counts) 0 in
    let e : (count == 0) ≡ true = eq-eqb count 0 none in
    record {
      end = rest.end;
      low = omega (arith, rest.low);
      leads =
          rw e
          (subst (λ (c : ℕ). told_after (answering told ops (front ++ c ∷ zeros) failed rank) (busy_entries (suc panel) counts)
          ≡ Some (answering told ops (front ++ count ∷ counts) failed rest.end)) none
          (busy_joined told ops front count zeros counts failed rank rest.end (busy_entries (suc panel) counts) rest.leads));
    }
one_busy_leads told ops front count counts failed panel rank ticking size less (inr some) behind =
    let rest = behind (1000000 + 2 ^ 64 + panel) (omega arith) in
    let zeros : List ℕ = replicate (length counts) 0 in
    let e : (count == 0) ≡ false = ne_eqb count 0 some in
    record {
      end = rest.end;
      low = omega (arith, rest.low);
      leads =
          rw e
          (leads_first (answering told ops (front ++ 0 ∷ zeros) failed rank)
          (answering told ops (front ++ count ∷ zeros) failed (1000000 + 2 ^ 64 + panel))
          (answering told ops (front ++ count ∷ counts) failed rest.end)
          (BusyEntry panel count) (busy_entries (suc panel) counts) (busy_leads told ops front zeros failed panel rank count ticking size less)
          (busy_joined told ops front count zeros counts failed (1000000 + 2 ^ 64 + panel) rest.end (busy_entries (suc panel) counts) rest.leads));
    }

pub all_busy_lead : (told : Told) (ops : List OpAnswer) (front counts : List ℕ) (failed : Bool) (panel rank : ℕ) → 0 < told.tick.0
    → length front + 1 ≡ panel → rank < 1000000 + 2 ^ 64 + panel →
    LeadsToAnswers told ops ops (front ++ replicate (length counts) 0) (front ++ counts) failed failed rank (1000000 + 2 ^ 64 + panel + length counts)
    (busy_entries panel counts)
all_busy_lead told ops front [] failed panel rank ticking size less = record { end = rank; low = omega (arith, less); leads = refl }
all_busy_lead told ops front (count ∷ counts) failed panel rank ticking size less =
    one_busy_leads told ops front count counts failed panel rank ticking size less (cases_eq count 0)
    (λ later low. all_busy_lead told ops (front ++ count ∷ []) counts failed (suc panel) later ticking
    (omega (arith, length-append front (count ∷ []), size)) low)

pub busy_entries_are : (site : Site) (panel : ℕ) (counts : List ℕ) → 1 ≤ panel → ((place : ℕ) → get_or counts place 0 < 2 ^ 64)
    → ((place : ℕ) → site.panels < panel + place → get_or counts place 0 ≡ 0) →
    AreEntries site (busy_entries panel counts)
busy_entries_are site panel [] from small none = tt
busy_entries_are site panel (count ∷ counts) from small none =
    by (cases_eq count 0)
    (busy_entries_are site (suc panel) counts (omega arith) (λ place. small (suc place)) (λ place past. none (suc place) (omega (arith, past))))
  where
    within : (count ≡ 0 → ⊥) → panel ≤ site.panels
    within some = elim (cases_lt site.panels panel) [ inl past ↦ absurd (some (none 0 (omega (arith, past)))) | inr less ↦ less ]

    by : (count ≡ 0) ⊎ (count ≡ 0 → ⊥) → AreEntries site (busy_entries (suc panel) counts)
        → AreEntries site ((if count == 0 then [] else BusyEntry panel count ∷ []) ++ busy_entries (suc panel) counts)
    by (inl zero_count) rest = rw (eq-eqb count 0 zero_count) rest
    by (inr some) rest = let here : count < 2 ^ 64 = small 0 in rw (ne_eqb count 0 some) ((from, within some, omega (arith, some), here), rest)

abbrev pub failure_entries : Bool → List Entry
failure_entries false = []
failure_entries true = StoreFailed ∷ []

pub failure_entries_are : (site : Site) (failed : Bool) → AreEntries site (failure_entries failed)
failure_entries_are site false = tt
failure_entries_are site true = (tt, tt)

pub failure_leads : (told : Told) (ops : List OpAnswer) (busy : List ℕ) (failed : Bool) (rank : ℕ) → 0 < told.tick.0 → rank < 1000000 + 2 ^ 64 + 9 →
    LeadsToAnswers told ops ops busy busy false failed rank (1000000 + 2 ^ 64 + 10) (failure_entries failed)
failure_leads told ops busy false rank ticking less = record { end = rank; low = omega (arith, less); leads = refl }
failure_leads told ops busy true rank ticking less =
    let tick : nat_lt 0 told.tick.0 ≡ true = lt-ltb 0 told.tick.0 ticking in
    let comes : nat_lt rank (1000000 + 2 ^ 64 + 9) ≡ true = lt-ltb rank (1000000 + 2 ^ 64 + 9) less in
    record { end = 1000000 + 2 ^ 64 + 9; low = omega arith; leads = rw (tick, comes) refl }

-- ---- all that is answered in a tick

abbrev pub answer_entries : Answers → List Entry
answer_entries answers = op_entries answers.ops ++ (busy_entries 1 answers.busy ++ failure_entries answers.failed)

pub answer_entries_are : (site : Site) (answers : Answers) → AreAnswers site answers → AreEntries site (answer_entries answers)
answer_entries_are site answers are =
    entries_join site (op_entries answers.ops) (busy_entries 1 answers.busy ++ failure_entries answers.failed)
    (op_entries_are site 0 answers.ops are.ops)
    (entries_join site (busy_entries 1 answers.busy) (failure_entries answers.failed)
    (busy_entries_are site 1 answers.busy (omega arith) are.counts (λ place past. are.no_other place (omega (arith, past))))
    (failure_entries_are site answers.failed))

pub answers_lead : (site : Site) (told : Told) (answers : Answers) (rank : ℕ) → 0 < told.tick.0 → AreAnswers site answers → rank < 1000000 →
    LeadsToAnswers told [] answers.ops (replicate 8 0) answers.busy false answers.failed rank (1000000 + 2 ^ 64 + 10) (answer_entries answers)
answers_lead site told answers rank ticking are low =
    let few : length answers.ops ≤ 64 = are.few in
    let size : length answers.busy ≡ 8 = are.panels in
    let zeros : List ℕ = replicate 8 0 in
    let first = ops_lead told [] answers.ops zeros false 0 rank ticking are.ops (omega arith) (omega (arith, low)) (omega (arith, few)) in
    let second : LeadsToAnswers told answers.ops answers.ops zeros answers.busy false false first.end (1000000 + 2 ^ 64 + 1 + length answers.busy)
    (busy_entries 1 answers.busy) =
    subst (λ (n : ℕ). LeadsToAnswers told answers.ops answers.ops (replicate n 0) answers.busy false false first.end
    (1000000 + 2 ^ 64 + 1 + length answers.busy) (busy_entries 1 answers.busy)) size
    (all_busy_lead told answers.ops [] answers.busy false 1 first.end ticking refl (omega (arith, first.low))) in
    let third = failure_leads told answers.ops answers.busy answers.failed second.end ticking (omega (arith, second.low, size)) in
    record {
      end = third.end;
      low = third.low;
      leads =
          leads_on (answering told [] zeros false rank) (answering told answers.ops zeros false first.end)
          (answering told answers.ops answers.busy answers.failed third.end) (op_entries answers.ops)
          (busy_entries 1 answers.busy ++ failure_entries answers.failed) first.leads
          (leads_on (answering told answers.ops zeros false first.end) (answering told answers.ops answers.busy false second.end)
          (answering told answers.ops answers.busy answers.failed third.end)
          (busy_entries 1 answers.busy) (failure_entries answers.failed) second.leads third.leads);
    }
