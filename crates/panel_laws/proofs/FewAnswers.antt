-- At most 64 operations are answered by number in a tick: of each of at most eight panels four of the tick
-- and four of the one before.
use Rattle.std.proofs.Common.{◌≡◌, ◌≢◌, ℕ, zero, suc, ◌+◌, ◌-◌, ◌*◌, ◌≤◌, ◌==◌, ◌&&◌, ◌||◌, inl, inr, Bool, true}
use Rattle.std.proofs.Common.{false, List, [], ◌∷◌, ◌++◌, length, Option, Some, None, slice_get, if◌then◌else◌, refl}
use Rattle.std.proofs.Common.{sym, ◌∙◌, ap, arith}
use Rattle.std.specs.Prelude.{filter, nat_le, nat_lt, option_map}
use Rattle.std.specs.List.{cons_option, filter_map}
use Rattle.std.proofs.lemmas.Bool.Decides.{eqb_tells, leb_tells}
use Rattle.site_types.specs.declared.event.Event.TheVariants.{Op, Point, Cable, Supply, Link, Confirmed}
use Rattle.site_types.specs.declared.site.Site.{Site}
use Rattle.access_levels.specs.Levels.{level_of}
use Rattle.face_text.specs.declared.op_answer.OpAnswer.{OpAnswer}
use Rattle.panel_rules.specs.Moments.{Moment, Began, Happened, Turned, Kept, tick_of}
use Rattle.panel_rules.specs.Operations.{Request, Answered, request_of, requests, requests_in}
use Rattle.panel_rules.specs.Timeline.{is_busy, told_answer}
use Rattle.panel_laws.proofs.AnswerLaws.{eq_is}
use Rattle.panel_laws.proofs.AnswersFit.{is_told_or_busy}
use Rattle.panel_rules.proofs.Bools.{parts}
use Rattle.panel_rules.proofs.Counting.{one, count, count-append, count-none, each_by}
use Rattle.panel_rules.proofs.Floors.{lt_from}

pub length_filter : {X : Type 0} (test : X → Bool) (xs : List X) → length (filter test xs) ≡ count test xs
length_filter test [] = refl
length_filter test (x ∷ xs) = go (test x) (length_filter test xs)
  where
    go : (b : Bool) → length (filter test xs) ≡ count test xs → length (if b then x ∷ filter test xs else filter test xs) ≡ one b + count test xs
    go true ih = omega (arith, ih)
    go false ih = omega (arith, ih)

count_split : {X : Type 0} (whole first second : X → Bool) (xs : List X) → ((x : X) → one (whole x) ≤ one (first x) + one (second x))
    → count whole xs ≤ count first xs + count second xs
count_split whole first second [] each = omega arith
count_split whole first second (x ∷ xs) each = let ih = count_split whole first second xs each in let here = each x in omega (arith, ih, here)

-- ---- of one panel and tick

abbrev is_asked_at : ℕ → ℕ → Request → Bool
is_asked_at panel tick r = (r.panel == panel) && (r.tick == tick)

abbrev is_early_at : ℕ → ℕ → Request → Bool
is_early_at panel tick r = is_asked_at panel tick r && nat_lt r.earlier 4

step : (c l e : ℕ) (b : Bool) → (b ≡ true → e ≡ l) → c ≤ 4 → c ≤ l → (c + one (b && nat_lt e 4) ≤ 4) × (one (b && nat_lt e 4) ≤ one b)
step c l e false same few less = (omega (arith, few), omega arith)
step c l e true same few less = go (nat_lt e 4) refl
  where
    go : (x : Bool) → nat_lt e 4 ≡ x → (c + one x ≤ 4) × (one x ≤ one true)
    go true t = let s = same refl in let u = lt_from e 4 t in (omega (arith, s, u, less), omega arith)
    go false t = (omega (arith, few), omega arith)

-- those that count are few, and no more than those that were asked
record AreFew (few asked : Request → Bool) (xs : List Request) : Type 0 where
  bound : count few xs ≤ 4
  less : count few xs ≤ count asked xs

few_more : (few asked : Request → Bool) (xs : List Request) (r : Request) → count few xs + one (few r) ≤ 4 → count few xs ≤ count asked xs
    → one (few r) ≤ one (asked r) → AreFew few asked (xs ++ r ∷ [])
few_more few asked xs r bound less one_less =
    let a = count-append few xs (r ∷ []) in
    let b = count-append asked xs (r ∷ []) in
    record { bound = omega (arith, a, bound); less = omega (arith, a, b, less, one_less) }

module _ (panel tick : ℕ) where
  next_few : (xs : List Request) (r : Request) → r.earlier ≡ length (requests_in r.panel r.tick xs)
      → AreFew (is_early_at panel tick) (is_asked_at panel tick) xs → AreFew (is_early_at panel tick) (is_asked_at panel tick) (xs ++ r ∷ [])
  next_few xs r e h =
      let s = step (count (is_early_at panel tick) xs) (count (is_asked_at panel tick) xs) r.earlier (is_asked_at panel tick r) same h.bound h.less in
      few_more (is_early_at panel tick) (is_asked_at panel tick) xs r s.0 h.less s.1
    where
      same : is_asked_at panel tick r ≡ true → r.earlier ≡ count (is_asked_at panel tick) xs
      same t =
          let p = parts (r.panel == panel) (r.tick == tick) t in
          e
          ∙ ap (λ x. length (requests_in x r.tick xs)) (eq_is r.panel panel p.0)
          ∙ ap (λ x. length (requests_in panel x xs)) (eq_is r.tick tick p.1)
          ∙ length_filter (is_asked_at panel tick) xs

  few_at : (site : Site) (moments : List Moment) → AreFew (is_early_at panel tick) (is_asked_at panel tick) (requests site moments)
  few_at site [] = record { bound = omega arith; less = omega arith }
  few_at site (Began ∷ before) = let h = few_at site before in record { bound = h.bound; less = h.less }
  few_at site (Happened (Op other code operation) ∷ before) =
      let h =
      next_few (requests site before) (request_of (tick_of before) other (level_of site (option_map (λ label. label.bytes) code)) operation
      (requests site before)) refl (few_at site before) in
      record { bound = h.bound; less = h.less }
  few_at site (Happened (Point point state) ∷ before) = let h = few_at site before in record { bound = h.bound; less = h.less }
  few_at site (Happened (Cable other line piece state) ∷ before) = let h = few_at site before in record { bound = h.bound; less = h.less }
  few_at site (Happened (Supply other kind bad) ∷ before) = let h = few_at site before in record { bound = h.bound; less = h.less }
  few_at site (Happened (Link link up) ∷ before) = let h = few_at site before in record { bound = h.bound; less = h.less }
  few_at site (Happened (Confirmed output) ∷ before) = let h = few_at site before in record { bound = h.bound; less = h.less }
  few_at site (Turned other task ∷ before) = let h = few_at site before in record { bound = h.bound; less = h.less }
  few_at site (Kept failed ∷ before) = let h = few_at site before in record { bound = h.bound; less = h.less }

-- ---- of all panels

-- of panel 1 to some, early in a tick
abbrev pub is_early_up_to : ℕ → ℕ → Request → Bool
is_early_up_to panels tick r = (nat_le 1 r.panel && nat_le r.panel panels) && ((r.tick == tick) && nat_lt r.earlier 4)

nowhere : (panel : ℕ) (b : Bool) → ((nat_le 1 panel && nat_le panel 0) && b) ≡ false
nowhere panel b =
    elim (leb_tells 1 panel) [
      | inl h ↦
          elim (leb_tells panel 0) [
            | inl g ↦ (let k = h.1 in let l = g.1 in absurd (omega (arith, k, l)))
            | inr g ↦ ap (λ x. (nat_le 1 panel && x) && b) g.0 ∙ shut (nat_le 1 panel) b
          ]
      | inr h ↦ ap (λ x. (x && nat_le panel 0) && b) h.0
    ]
  where
    shut : (a b : Bool) → ((a && false) && b) ≡ false
    shut true b = refl
    shut false b = refl

same_le : (panel n : ℕ) → panel ≢ suc n → nat_le panel (suc n) ≡ nat_le panel n
same_le panel n apart =
    elim (leb_tells panel (suc n)) [
      | inl h ↦
          elim (leb_tells panel n) [
            | inl g ↦ h.0 ∙ sym g.0
            | inr g ↦ (let k = h.1 in let l = g.1 in absurd (apart (omega (arith, k, l))))
          ]
      | inr h ↦
          elim (leb_tells panel n) [
            | inl g ↦ (let k = h.1 in let l = g.1 in absurd (omega (arith, k, l)))
            | inr g ↦ h.0 ∙ sym g.0
          ]
    ]

here : (a b t e : Bool) → one (a && (t && e)) ≤ one (b && (t && e)) + one ((true && t) && e)
here true b true true = omega arith
here true b true false = omega arith
here true b false e = omega arith
here false b t e = omega arith

split_panel : (panel n : ℕ) (t e : Bool)
    → one ((nat_le 1 panel && nat_le panel (suc n)) && (t && e)) ≤ one ((nat_le 1 panel && nat_le panel n) && (t && e)) + one (((panel == suc n) && t)
    && e)
split_panel panel n t e =
    elim (eqb_tells panel (suc n)) [
      | inl h ↦ rw h.0 (here (nat_le 1 panel && nat_le panel (suc n)) (nat_le 1 panel && nat_le panel n) t e)
      | inr h ↦ rw (same_le panel n h.1) (omega arith)
    ]

few_panels : (tick : ℕ) (xs : List Request) → ((panel : ℕ) → count (is_early_at panel tick) xs ≤ 4) → (n : ℕ)
    → count (is_early_up_to n tick) xs ≤ n * 4
few_panels tick xs each zero = let none =
    count-none (is_early_up_to 0 tick) xs
    (each_by (λ (r : Request). is_early_up_to 0 tick r ≡ false) xs (λ k r h. nowhere r.panel ((r.tick == tick) && nat_lt r.earlier 4))) in
    omega (arith, none)
few_panels tick xs each (suc n) =
    let ih = few_panels tick xs each n in
    let one_more = each (suc n) in
    let split =
    count_split (is_early_up_to (suc n) tick) (is_early_up_to n tick) (is_early_at (suc n) tick) xs
    (λ r. split_panel r.panel n (r.tick == tick) (nat_lt r.earlier 4)) in
    omega (arith, ih, one_more, split)

-- those of a tick that aren't busy
pub few_in_tick : (site : Site) (moments : List Moment) (tick : ℕ) → count (is_early_up_to 8 tick) (requests site moments) ≤ 32
few_in_tick site moments tick = few_panels tick (requests site moments) (λ panel. (few_at panel tick site moments).bound) 8

-- those that can be answered by number in a tick
abbrev pub can_be_told : ℕ → Request → Bool
can_be_told tick r = is_early_up_to 8 tick r || is_early_up_to 8 (tick - 1) r

or_split : (a b : Bool) → one (a || b) ≤ one a + one b
or_split true b = omega arith
or_split false b = omega arith

pub few_asked : (site : Site) (moments : List Moment) (tick : ℕ) → count (can_be_told tick) (requests site moments) ≤ 64
few_asked site moments tick =
    let now_few = few_in_tick site moments tick in
    let last_few = few_in_tick site moments (tick - 1) in
    let split =
    count_split (can_be_told tick) (is_early_up_to 8 tick) (is_early_up_to 8 (tick - 1)) (requests site moments)
    (λ r. or_split (is_early_up_to 8 tick r) (is_early_up_to 8 (tick - 1) r)) in
    omega (arith, now_few, last_few, split)

-- ---- of those that are told

pub told_few : (look : Request → Option Answered) (test : Request → Bool) (asked : List Request)
    → ((k : ℕ) (r : Request) (a : Answered) → slice_get asked k ≡ Some r → look r ≡ Some a → is_busy a.reply ≡ false → test r ≡ true)
    → length (filter_map told_answer (filter_map look asked)) ≤ count test asked
told_few look test [] passes = omega arith
told_few look test (r ∷ asked) passes = go (look r) refl (told_few look test asked (λ k x a is e free. passes (suc k) x a is e free))
  where
    either : (a : Answered) → look r ≡ Some a → (o : Option OpAnswer) → told_answer a ≡ o → (is_busy a.reply ≡ false → test r ≡ true)
        → length (filter_map told_answer (filter_map look asked)) ≤ count test asked →
        length (cons_option o (filter_map told_answer (filter_map look asked))) ≤ one (test r) + count test asked
    either a e None t free ih = omega (arith, ih)
    either a e (Some op) t free ih =
        elim (is_told_or_busy a) [
          | inl h ↦ (let x : None ≡ Some op = sym h.0 ∙ t in absurd cc)
          | inr h ↦ (let z = ap one (free h.free) in omega (arith, ih, z))
        ]

    go : (o : Option Answered) → look r ≡ o → length (filter_map told_answer (filter_map look asked)) ≤ count test asked →
        length (filter_map told_answer (cons_option o (filter_map look asked))) ≤ one (test r) + count test asked
    go None e ih = omega (arith, ih)
    go (Some a) e ih = either a e (told_answer a) refl (λ free. passes 0 r a refl e free) ih
