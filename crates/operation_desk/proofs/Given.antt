-- One answer more: those given in a tick, by number.
use Rattle.std.proofs.Common.{◌≡◌, ◌≢◌, ℕ, zero, suc, ◌+◌, ◌<◌, ◌≤◌, ◌==◌, ◌&&◌, Bool, true, false, not, List, []}
use Rattle.std.proofs.Common.{◌∷◌, ◌++◌, Option, Some, None, inl, inr, slice_get, refl, sym, ◌∙◌, ap, subst, arith}
use Rattle.std.specs.Prelude.{filter, nat_lt}
use Rattle.std.specs.List.{AllByRecursion, cons_option, filter_map}
use Rattle.std.proofs.lemmas.Bool.Decides.{eqb_tells}
use Rattle.std.proofs.lemmas.List.{append-nil}
use Rattle.std.proofs.lemmas.List.Elements.{filter-append, filter_map-append}
use Rattle.face_text.specs.declared.op_answer.OpAnswer.{OpAnswer}
use Rattle.site_types.specs.declared.retained.Retained.{Retained}
use Rattle.site_types.specs.declared.site.Site.{Site}
use Rattle.site_types.proofs.Done.{lt_tells}
use Rattle.panel_rules.specs.Operations.{Answered, Request}
use Rattle.panel_rules.specs.Timeline.{answer_in, busy_count, is_busy, told_answer}
use Rattle.panel_rules.proofs.Counting.{one, count, count-append}
use Rattle.panel_rules.proofs.Floors.{lt_to}
use Rattle.panel_rules.proofs.AnswersTell.{eq_true}
use Rattle.panel_laws.proofs.AnswersFit.{is_told_or_busy}
use Rattle.panel_laws.proofs.AnswersRise.{found}
use Rattle.panel_laws.proofs.FewAnswers.{length_filter}
use Rattle.operation_desk.specs.Ordered.{comes_before, put_by_number}
use Rattle.operation_desk.specs.Stands.{AreNumberedByPlace, given_in, told_in}

next_numbered : (past : ℕ) (r : Request) (asked : List Request) → AreNumberedByPlace past (r ∷ asked) → AreNumberedByPlace (past + 1) asked
next_numbered past r asked h k x e = let m = h (suc k) x e in omega (arith, m)

abbrev IsBelow : ℕ → Answered → Type 0
IsBelow n x = x.request.number < n

abbrev IsAbove : ℕ → Answered → Type 0
IsAbove n x = n < x.request.number

module _ (site : Site) (kept : Retained) (tick : ℕ) (answers : List Answered) where
  abbrev look : Request → Option Answered
  look r = answer_in site kept tick answers r

  abbrev look_with : Answered → Request → Option Answered
  look_with a r = answer_in site kept tick (a ∷ answers) r

  found_number : (r : Request) (x : Answered) → look r ≡ Some x → x.request.number ≡ r.number
  found_number r x h = (found site kept answers tick r x h).number

  other_number : (a : Answered) (r : Request) → a.request.number ≢ r.number → look_with a r ≡ look r
  other_number a r apart =
      elim (eqb_tells a.request.number r.number) [ inl h ↦ absurd (apart h.1) | inr h ↦ rw h.0 refl ]

  own_number : (a : Answered) (r : Request) → a.request.number ≡ r.number → a.tick ≡ tick → look_with a r ≡ Some a
  own_number a r same now = rw (eq_true a.request.number r.number same) (rw (eq_true a.tick tick now) refl)

  -- those that are numbered above it are looked up as before
  same_above : (a : Answered) (past : ℕ) (asked : List Request) → AreNumberedByPlace past asked → a.request.number ≤ past
      → filter_map (look_with a) asked ≡ filter_map look asked
  same_above a past [] numbered low = refl
  same_above a past (r ∷ asked) numbered low =
      let here = numbered 0 r refl in
      let apart : a.request.number ≢ r.number = λ e. absurd (omega (arith, e, here, low)) in
      let ih = same_above a (past + 1) asked (next_numbered past r asked numbered) (omega (arith, low)) in
      rw (other_number a r apart, ih) refl

  all_above : (n past : ℕ) (asked : List Request) → AreNumberedByPlace past asked → n ≤ past → AllByRecursion (IsAbove n) (filter_map look asked)
  all_above n past [] numbered low = tt
  all_above n past (r ∷ asked) numbered low =
      go (look r) refl (all_above n (past + 1) asked (next_numbered past r asked numbered) (omega (arith, low)))
    where
      go : (o : Option Answered) → look r ≡ o → AllByRecursion (IsAbove n) (filter_map look asked)
          → AllByRecursion (IsAbove n) (cons_option o (filter_map look asked))
      go None e ih = ih
      go (Some x) e ih = let m = found_number r x e in let here = numbered 0 r refl in (omega (arith, m, here, low), ih)

  -- an answer that is added stands behind those of lower numbers
  pub record IsParted (a : Answered) (asked : List Request) : Type 0 where
    pub low : List Answered
    pub high : List Answered
    pub before : filter_map look asked ≡ low ++ high
    pub after : filter_map (look_with a) asked ≡ low ++ a ∷ high
    pub below : AllByRecursion (IsBelow a.request.number) low
    pub above : AllByRecursion (IsAbove a.request.number) high

  parted_at : (a : Answered) (past : ℕ) (asked : List Request) (place : ℕ) → AreNumberedByPlace past asked
      → slice_get asked place ≡ Some a.request → a.tick ≡ tick → look a.request ≡ None → IsParted a asked
  parted_at a past [] place numbered is now none = cc
  parted_at a past (r ∷ asked) zero numbered is now none =
      let same : r ≡ a.request = cc in
      let here = numbered 0 r refl in
      let low : a.request.number ≤ past + 1 = (let e = ap (λ (x : Request). x.number) same in omega (arith, e, here)) in
      let own = own_number a r (ap (λ (x : Request). x.number) (sym same)) now in
      record {
        low = [];
        high = filter_map look asked;
        before = ap (λ o. cons_option o (filter_map look asked)) (ap look same ∙ none);
        after =
            ap (λ o. cons_option o (filter_map (look_with a) asked)) own
            ∙ ap (λ xs. a ∷ xs) (same_above a (past + 1) asked (next_numbered past r asked numbered) low);
        below = tt;
        above = all_above a.request.number (past + 1) asked (next_numbered past r asked numbered) low;
      }
  parted_at a past (r ∷ asked) (suc place) numbered is now none =
      let here = numbered 0 r refl in
      let there = numbered (suc place) a.request is in
      let less : r.number < a.request.number = omega (arith, here, there) in
      let ih = parted_at a (past + 1) asked place (next_numbered past r asked numbered) is now none in
      let apart : a.request.number ≢ r.number = λ e. absurd (omega (arith, e, less)) in
      go (look r) refl less (other_number a r apart) ih
    where
      go : (o : Option Answered) → look r ≡ o → r.number < a.request.number → look_with a r ≡ look r → IsParted a asked → IsParted a (r ∷ asked)
      go None e less same ih = record {
        low = ih.low;
        high = ih.high;
        before = ap (λ o. cons_option o (filter_map look asked)) e ∙ ih.before;
        after = ap (λ o. cons_option o (filter_map (look_with a) asked)) (same ∙ e) ∙ ih.after;
        below = ih.below;
        above = ih.above;
      }
      go (Some x) e less same ih = record {
        low = x ∷ ih.low;
        high = ih.high;
        before = ap (λ o. cons_option o (filter_map look asked)) e ∙ ap (λ xs. x ∷ xs) ih.before;
        after = ap (λ o. cons_option o (filter_map (look_with a) asked)) (same ∙ e) ∙ ap (λ xs. x ∷ xs) ih.after;
        below = ((let m = found_number r x e in omega (arith, m, less)), ih.below);
        above = ih.above;
      }

-- ---- as they are told

told_number : (a : Answered) (op : OpAnswer) → told_answer a ≡ Some op → op.number ≡ a.request.number
told_number a op t =
    elim (is_told_or_busy a) [
      | inl h ↦ (let x : None ≡ Some op = sym h.0 ∙ t in absurd cc)
      | inr h ↦ (let x : Some h.op ≡ Some op = sym h.is ∙ t in let same : h.op ≡ op = cc in ap (λ (o : OpAnswer). o.number) (sym same) ∙ h.number)
    ]

busy_untold : (a : Answered) → is_busy a.reply ≡ true → told_answer a ≡ None
busy_untold a busy =
    elim (is_told_or_busy a) [
      | inl h ↦ h.0
      | inr h ↦ (let x : true ≡ false = sym busy ∙ h.free in absurd cc)
    ]

-- those of lower numbers come first, those of higher ones behind
record IsLow (n : ℕ) (xs : List OpAnswer) : Type 0 where
  first : filter (comes_before n) xs ≡ xs
  last : filter (λ other. not (comes_before n other)) xs ≡ []

record IsHigh (n : ℕ) (xs : List OpAnswer) : Type 0 where
  first : filter (comes_before n) xs ≡ []
  last : filter (λ other. not (comes_before n other)) xs ≡ xs

all_low : (n : ℕ) (xs : List Answered) → AllByRecursion (IsBelow n) xs → IsLow n (filter_map told_answer xs)
all_low n [] all = record { first = refl; last = refl }
all_low n (x ∷ xs) all = go (told_answer x) refl (all_low n xs all.1)
  where
    go : (o : Option OpAnswer) → told_answer x ≡ o → IsLow n (filter_map told_answer xs) → IsLow n (cons_option o (filter_map told_answer xs))
    go None e ih = ih
    go (Some op) e ih =
        let m = told_number x op e in
        let l = all.0 in
        let here : nat_lt op.number n ≡ true = lt_to op.number n (omega (arith, m, l)) in
        record { first = rw here (ap (λ ys. op ∷ ys) ih.first); last = rw here ih.last }

all_high : (n : ℕ) (xs : List Answered) → AllByRecursion (IsAbove n) xs → IsHigh n (filter_map told_answer xs)
all_high n [] all = record { first = refl; last = refl }
all_high n (x ∷ xs) all = go (told_answer x) refl (all_high n xs all.1)
  where
    not_before : (a b : ℕ) → b < a → nat_lt a b ≡ false
    not_before a b l = elim (lt_tells a b) [ inl t ↦ (let m = t.1 in absurd (omega (arith, m, l))) | inr t ↦ t.0 ]

    go : (o : Option OpAnswer) → told_answer x ≡ o → IsHigh n (filter_map told_answer xs) → IsHigh n (cons_option o (filter_map told_answer xs))
    go None e ih = ih
    go (Some op) e ih =
        let m = told_number x op e in
        let l = all.0 in
        let here : nat_lt op.number n ≡ false = not_before op.number n (omega (arith, m, l)) in
        record { first = rw here ih.first; last = rw here (ap (λ ys. op ∷ ys) ih.last) }

put_between : (op : OpAnswer) (xs ys : List OpAnswer) → IsLow op.number xs → IsHigh op.number ys
    → put_by_number op (xs ++ ys) ≡ xs ++ op ∷ ys
put_between op xs ys low high =
    let one = filter-append (comes_before op.number) xs ys in
    let two = filter-append (λ other. not (comes_before op.number other)) xs ys in
    let firsts : filter (comes_before op.number) (xs ++ ys) ≡ xs =
    one ∙ ap (λ zs. zs ++ filter (comes_before op.number) ys) low.first ∙ ap (λ zs. xs ++ zs) high.first ∙ append-nil xs in
    let lasts : filter (λ other. not (comes_before op.number other)) (xs ++ ys) ≡ ys =
    two ∙ ap (λ zs. zs ++ filter (λ other. not (comes_before op.number other)) ys) low.last ∙ high.last in
    ap (λ zs. zs ++ op ∷ filter (λ other. not (comes_before op.number other)) (xs ++ ys)) firsts ∙ ap (λ zs. xs ++ op ∷ zs) lasts

-- ---- one answer more

module _ (site : Site) (kept : Retained) (tick : ℕ) (answers : List Answered) (a : Answered) (asked : List Request) (place : ℕ)
    (numbered : AreNumberedByPlace 0 asked) (is : slice_get asked place ≡ Some a.request) (now : a.tick ≡ tick)
    (none : answer_in site kept tick answers a.request ≡ None) where
  parted : IsParted site kept tick answers a asked
  parted = parted_at site kept tick answers a 0 asked place numbered is now none

  -- it is told behind those of lower numbers
  pub told_more : (op : OpAnswer) → told_answer a ≡ Some op
      → told_in site kept tick (a ∷ answers) asked ≡ put_by_number op (told_in site kept tick answers asked)
  told_more op t =
      let p = parted in
      let number = told_number a op t in
      let one : filter_map told_answer (given_in site kept tick (a ∷ answers) asked) ≡ filter_map told_answer p.low ++ op ∷ filter_map told_answer p.high =
      ap (filter_map told_answer) p.after ∙ filter_map-append told_answer p.low (a ∷ p.high)
      ∙ ap (λ o. filter_map told_answer p.low ++ cons_option o (filter_map told_answer p.high)) t in
      let two : filter_map told_answer (given_in site kept tick answers asked) ≡ filter_map told_answer p.low ++ filter_map told_answer p.high =
      ap (filter_map told_answer) p.before ∙ filter_map-append told_answer p.low p.high in
      let low = subst (λ n. IsLow n (filter_map told_answer p.low)) (sym number) (all_low a.request.number p.low p.below) in
      let high = subst (λ n. IsHigh n (filter_map told_answer p.high)) (sym number) (all_high a.request.number p.high p.above) in
      one ∙ sym (put_between op (filter_map told_answer p.low) (filter_map told_answer p.high) low high) ∙ ap (put_by_number op) (sym two)

  -- one that found its panel busy isn't
  pub told_same : is_busy a.reply ≡ true
      → told_in site kept tick (a ∷ answers) asked ≡ told_in site kept tick answers asked
  told_same busy =
      let p = parted in
      ap (filter_map told_answer) p.after ∙ filter_map-append told_answer p.low (a ∷ p.high)
      ∙ ap (λ o. filter_map told_answer p.low ++ cons_option o (filter_map told_answer p.high)) (busy_untold a busy)
      ∙ sym (filter_map-append told_answer p.low p.high) ∙ ap (filter_map told_answer) (sym p.before)

  -- it is counted with those that found a panel busy
  pub busy_more : (panel : ℕ) → busy_count panel (given_in site kept tick (a ∷ answers) asked)
      ≡ one ((a.request.panel == panel) && is_busy a.reply) + busy_count panel (given_in site kept tick answers asked)
  busy_more panel =
      let p = parted in
      let test : Answered → Bool = λ (x : Answered). (x.request.panel == panel) && is_busy x.reply in
      let one = length_filter test (given_in site kept tick (a ∷ answers) asked) ∙ ap (count test) p.after in
      let two = length_filter test (given_in site kept tick answers asked) ∙ ap (count test) p.before in
      let split = count-append test p.low (a ∷ p.high) in
      let join = count-append test p.low p.high in
      omega (arith, one, two, split, join)
