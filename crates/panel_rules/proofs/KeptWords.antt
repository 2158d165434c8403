-- What a panel keeps of another is a word that the other made, and never an older one than before.
use Rattle.std.proofs.Common.{◌≡◌, ℕ, ◌≤◌, ◌==◌, List, [], ◌∷◌, inl, inr, Bool, true, false, if◌then◌else◌, refl, ap, subst, arith}
use Rattle.std.specs.Prelude.{nat_lt}
use Rattle.std.proofs.lemmas.Bool.Decides.{eqb_tells}
use Rattle.tick_units.specs.declared.task.Task.{Task}
use Rattle.tick_units.specs.declared.task.Task.TheVariants.{Hold, Link}
use Rattle.site_types.proofs.Done.{lt_tells}
use Rattle.panel_rules.specs.Moments.{Moment, Began, Happened, Turned, Kept, tick_of, is_turn, IsPast, present, later, latest_turn, before_turn}
use Rattle.panel_rules.specs.States.{is_up}
use Rattle.panel_links.specs.Words.{carries, left_of, right_of}
use Rattle.panel_rules.specs.Kept.{made_at, newer, taken_over, kept_at, heard}
use Rattle.panel_rules.proofs.Turns.{from_start}
use Rattle.panel_rules.proofs.AnswersTell.{eq_true}

-- a word of a panel: none, or one that it made in a turn of Hold
pub data IsMade (source : ℕ) (word : List Moment) : Type 0 where
  nothing : word ≡ [] → IsMade source word
  in_turn : (before : List Moment) → word ≡ Turned source Hold ∷ before → IsMade source word

-- a word of a panel that was made by now
pub record IsWord (source : ℕ) (moments word : List Moment) : Type 0 where
  pub made : IsMade source word
  pub past : IsPast word moments
  pub latest : tick_of word ≤ latest_turn source Hold moments

no_word : (source : ℕ) (moments : List Moment) → IsWord source moments []
no_word source moments = record { made = nothing refl; past = from_start moments; latest = omega arith }

newer_is : (source : ℕ) (moments kept other : List Moment) → IsWord source moments kept → IsWord source moments other
    → IsWord source moments (newer kept other)
newer_is source moments kept other h g =
    elim (nat_lt (tick_of kept) (tick_of other)) as (λ b. IsWord source moments (if b then other else kept)) [ true ↦ g | false ↦ h ]

taken_is : (source : ℕ) (moments : List Moment) (up carried : Bool) (kept other : List Moment) → IsWord source moments kept
    → IsWord source moments other → IsWord source moments (taken_over up carried kept other)
taken_is source moments true true kept other h g = newer_is source moments kept other h g
taken_is source moments true false kept other h g = h
taken_is source moments false carried kept other h g = h

-- a word stays one as more befalls
word_on : (source : ℕ) (moment : Moment) (moments word : List Moment) → latest_turn source Hold moments ≤ latest_turn source Hold (moment ∷ moments)
    → IsWord source moments word → IsWord source (moment ∷ moments) word
word_on source moment moments word l h = record { made = h.made; past = later moment moments h.past; latest = omega (arith, h.latest, l) }

pub made_is : (panel : ℕ) (before : List Moment) → IsWord panel before (made_at panel before)
made_is panel [] = no_word panel []
made_is panel (Began ∷ before) = word_on panel Began before (made_at panel before) (omega arith) (made_is panel before)
made_is panel (Happened event ∷ before) = word_on panel (Happened event) before (made_at panel before) (omega arith) (made_is panel before)
made_is panel (Turned other Hold ∷ before) =
    elim (eqb_tells other panel) [
      | inl t ↦
          rw t.0 (record { made = in_turn before (ap (λ p. Turned p Hold ∷ before) t.1); past = present; latest = latest_now other panel before t.0 })
      | inr t ↦ rw t.0 (word_on panel (Turned other Hold) before (made_at panel before) (latest_same other panel before t.0) (made_is panel before))
    ]
  where
    latest_now : (other panel : ℕ) (before : List Moment) → (other == panel) ≡ true
        → tick_of before ≤ latest_turn panel Hold (Turned other Hold ∷ before)
    latest_now other panel before e = rw e (omega arith)

    latest_same : (other panel : ℕ) (before : List Moment) → (other == panel) ≡ false
        → latest_turn panel Hold before ≤ latest_turn panel Hold (Turned other Hold ∷ before)
    latest_same other panel before e = rw e (omega arith)
made_is panel (Turned other task ∷ before) = word_on panel (Turned other task) before (made_at panel before) (omega arith) (made_is panel before)
made_is panel (Kept failed ∷ before) = word_on panel (Kept failed) before (made_at panel before) (omega arith) (made_is panel before)

pub latest_by : (panel : ℕ) (task : Task) (moments : List Moment) → latest_turn panel task moments ≤ tick_of moments
latest_by panel task [] = omega arith
latest_by panel task (Began ∷ before) = omega (arith, latest_by panel task before)
latest_by panel task (Happened event ∷ before) = latest_by panel task before
latest_by panel task (Turned other_panel other ∷ before) =
    elim (is_turn panel task other_panel other) as (λ b. (if b then tick_of before else latest_turn panel task before) ≤ tick_of before) [
      | true ↦
          omega arith
      | false ↦ latest_by panel task before
    ]
latest_by panel task (Kept failed ∷ before) = latest_by panel task before

pub latest_rises : (panel : ℕ) (task : Task) (moment : Moment) (before : List Moment)
    → latest_turn panel task before ≤ latest_turn panel task (moment ∷ before)
latest_rises panel task Began before = omega arith
latest_rises panel task (Happened event) before = omega arith
latest_rises panel task (Turned other_panel other) before =
    elim (is_turn panel task other_panel other) as
    (λ b. latest_turn panel task before ≤ (if b then tick_of before else latest_turn panel task before)) [
      | true ↦ latest_by panel task before
      | false ↦ omega arith
    ]
latest_rises panel task (Kept failed) before = omega arith

pub made_tick : (panel : ℕ) (before : List Moment) → tick_of (made_at panel before) ≡ latest_turn panel Hold before
made_tick panel [] = refl
made_tick panel (Began ∷ before) = made_tick panel before
made_tick panel (Happened event ∷ before) = made_tick panel before
made_tick panel (Turned other Hold ∷ before) =
    elim (eqb_tells other panel) [
      | inl t ↦ rw t.0 refl
      | inr t ↦ rw t.0 (made_tick panel before)
    ]
made_tick panel (Turned other task ∷ before) = made_tick panel before
made_tick panel (Kept failed ∷ before) = made_tick panel before

-- what a panel begins with at its turn of Link: its own word, else what it kept
own_is : (panels panel source : ℕ) (before : List Moment) → IsWord source before (kept_at panels panel source before)
    → IsWord source before (if panel == source then made_at panel before else kept_at panels panel source before)
own_is panels panel source before h =
    elim (eqb_tells panel source) [
      | inl t ↦ rw t.0 (subst (λ p. IsWord p before (made_at panel before)) t.1 (made_is panel before))
      | inr t ↦ rw t.0 h
    ]

pub kept_is : (panels panel source : ℕ) (moments : List Moment) → IsWord source moments (kept_at panels panel source moments)
kept_is panels panel source [] = no_word source []
kept_is panels panel source (Began ∷ before) =
    word_on source Began before _ (latest_rises source Hold Began before) (kept_is panels panel source before)
kept_is panels panel source (Happened event ∷ before) =
    word_on source (Happened event) before _ (latest_rises source Hold (Happened event) before) (kept_is panels panel source before)
kept_is panels panel source (Turned other Link ∷ before) =
    elim (eqb_tells other panel) [
      | inl t ↦
          rw t.0
          (word_on source (Turned other Link) before _ (latest_rises source Hold (Turned other Link) before)
          (taken_is source before (is_up panel before) (carries panels (tick_of before) source) _ _
          (taken_is source before (is_up (left_of panels panel) before) (carries panels (tick_of before) source) _ _
          (own_is panels panel source before (kept_is panels panel source before)) (kept_is panels (left_of panels panel) source before))
          (kept_is panels (right_of panels panel) source before)))
      | inr t ↦
          rw t.0 (word_on source (Turned other Link) before _ (latest_rises source Hold (Turned other Link) before)
          (kept_is panels panel source before))
    ]
kept_is panels panel source (Turned other task ∷ before) =
    word_on source (Turned other task) before _ (latest_rises source Hold (Turned other task) before) (kept_is panels panel source before)
kept_is panels panel source (Kept failed ∷ before) =
    word_on source (Kept failed) before _ (latest_rises source Hold (Kept failed) before) (kept_is panels panel source before)

-- no word that is heard is newer than the panel's latest
pub heard_past : (panels panel source : ℕ) (moments : List Moment) → heard panels panel source moments ≤ latest_turn source Hold moments
heard_past panels panel source moments = (kept_is panels panel source moments).latest

newer_keeps : (kept other : List Moment) → (tick_of kept ≤ tick_of (newer kept other)) × (tick_of other ≤ tick_of (newer kept other))
newer_keeps kept other =
    elim (lt_tells (tick_of kept) (tick_of other)) [
      | inl t ↦ rw t.0 (omega (arith, t.1), omega arith)
      | inr t ↦ rw t.0 (omega arith, t.1)
    ]

pub taken_keeps : (up carried : Bool) (kept other : List Moment) → tick_of kept ≤ tick_of (taken_over up carried kept other)
taken_keeps true true kept other = (newer_keeps kept other).0
taken_keeps true false kept other = omega arith
taken_keeps false carried kept other = omega arith

pub taken_takes : (up carried : Bool) (kept other : List Moment) → up ≡ true → carried ≡ true
    → tick_of other ≤ tick_of (taken_over up carried kept other)
taken_takes true true kept other u c = (newer_keeps kept other).1
taken_takes true false kept other u c = absurd (differ c)
  where
    differ : false ≡ true → ⊥
    differ e = cc
taken_takes false carried kept other u c = absurd (differ u)
  where
    differ : false ≡ true → ⊥
    differ e = cc

own_keeps : (panels panel source : ℕ) (before : List Moment)
    → heard panels panel source before ≤ tick_of (if panel == source then made_at panel before else kept_at panels panel source before)
own_keeps panels panel source before =
    elim (eqb_tells panel source) [
      | inl t ↦ rw t.0 (own t.1)
      | inr t ↦ rw t.0 (omega arith)
    ]
  where
    own : panel ≡ source → heard panels panel source before ≤ tick_of (made_at panel before)
    own e =
        subst (λ s. heard panels panel s before ≤ tick_of (made_at panel before)) e
        (omega (arith, heard_past panels panel panel before, made_tick panel before))

-- a stamp that is heard never falls
pub heard_next : (panels panel source : ℕ) (moment : Moment) (before : List Moment)
    → heard panels panel source before ≤ heard panels panel source (moment ∷ before)
heard_next panels panel source Began before = omega arith
heard_next panels panel source (Happened event) before = omega arith
heard_next panels panel source (Turned other Link) before =
    elim (eqb_tells other panel) [
      | inl t ↦
          (let first = own_keeps panels panel source before in
          let second =
          taken_keeps (is_up (left_of panels panel) before) (carries panels (tick_of before) source)
          (if panel == source then made_at panel before else kept_at panels panel source before)
          (kept_at panels (left_of panels panel) source before) in
          let third =
          taken_keeps (is_up panel before) (carries panels (tick_of before) source)
          (taken_over (is_up (left_of panels panel) before) (carries panels (tick_of before) source)
          (if panel == source then made_at panel before else kept_at panels panel source before)
          (kept_at panels (left_of panels panel) source before)) (kept_at panels (right_of panels panel) source before) in
          rw t.0 (omega (arith, first, second, third)))
      | inr t ↦ rw t.0 (omega arith)
    ]
heard_next panels panel source (Turned other task) before = omega arith
heard_next panels panel source (Kept failed) before = omega arith

pub heard_rises : (panels panel source : ℕ) (past moments : List Moment) → IsPast past moments
    → heard panels panel source past ≤ heard panels panel source moments
heard_rises panels panel source past moments present = omega arith
heard_rises panels panel source past moments (later moment before h) =
    omega (arith, heard_rises panels panel source past before h, heard_next panels panel source moment before)

-- at its turn of Link a panel takes what its neighbours have, and keeps its own word
pub takes_below : (panels panel source : ℕ) (before : List Moment) → is_up (left_of panels panel) before ≡ true
    → carries panels (tick_of before) source ≡ true
    → heard panels (left_of panels panel) source before ≤ heard panels panel source (Turned panel Link ∷ before)
takes_below panels panel source before up carried =
    let one =
    taken_over (is_up (left_of panels panel) before) (carries panels (tick_of before) source)
    (if panel == source then made_at panel before else kept_at panels panel source before) (kept_at panels (left_of panels panel) source before)
    in
    let first =
    taken_takes (is_up (left_of panels panel) before) (carries panels (tick_of before) source)
    (if panel == source then made_at panel before else kept_at panels panel source before) (kept_at panels (left_of panels panel) source before)
    up carried in
    let second = taken_keeps (is_up panel before) (carries panels (tick_of before) source) one (kept_at panels (right_of panels panel) source before)
    in
    rw (eq_true panel panel refl) (omega (arith, first, second))

pub takes_above : (panels panel source : ℕ) (before : List Moment) → is_up panel before ≡ true → carries panels (tick_of before) source ≡ true
    → heard panels (right_of panels panel) source before ≤ heard panels panel source (Turned panel Link ∷ before)
takes_above panels panel source before up carried =
    let one =
    taken_over (is_up (left_of panels panel) before) (carries panels (tick_of before) source)
    (if panel == source then made_at panel before else kept_at panels panel source before) (kept_at panels (left_of panels panel) source before)
    in
    let second = taken_takes (is_up panel before) (carries panels (tick_of before) source) one (kept_at panels (right_of panels panel) source before)
    up carried in
    rw (eq_true panel panel refl) (omega (arith, second))

-- a panel has its own word of the tick of its latest turn of Link, or of the one before
pub own_heard : (panels panel : ℕ) (moments : List Moment)
    → latest_turn panel Hold (before_turn panel Link moments) ≤ heard panels panel panel moments
own_heard panels panel [] = omega arith
own_heard panels panel (Began ∷ before) = own_heard panels panel before
own_heard panels panel (Happened event ∷ before) = own_heard panels panel before
own_heard panels panel (Turned other Link ∷ before) =
    elim (eqb_tells other panel) [
      | inl t ↦
          (let own = made_tick panel before in
          let second =
          taken_keeps (is_up (left_of panels panel) before) (carries panels (tick_of before) panel) (made_at panel before)
          (kept_at panels (left_of panels panel) panel before) in
          let third =
          taken_keeps (is_up panel before) (carries panels (tick_of before) panel)
          (taken_over (is_up (left_of panels panel) before) (carries panels (tick_of before) panel) (made_at panel before)
          (kept_at panels (left_of panels panel) panel before)) (kept_at panels (right_of panels panel) panel before) in
          rw (t.0, eq_true panel panel refl) (omega (arith, own, second, third)))
      | inr t ↦ rw t.0 (own_heard panels panel before)
    ]
own_heard panels panel (Turned other task ∷ before) = own_heard panels panel before
own_heard panels panel (Kept failed ∷ before) = own_heard panels panel before
