-- A word that a panel made is the latest one up to its own tick.
use Rattle.std.proofs.Common.{◌≡◌, ℕ, ◌≤◌, List, [], ◌∷◌, inl, inr, true, false, if◌then◌else◌, refl, sym, ◌∙◌, ap, subst, arith}
use Rattle.std.proofs.lemmas.Bool.Decides.{eqb_tells, leb_tells}
use Rattle.tick_units.specs.declared.task.Task.TheVariants.{Hold}
use Rattle.panel_rules.specs.Moments.{Moment, Began, Happened, Turned, Kept, tick_of, is_turn, has_turned, has_kept, is_fresh, IsRun, IsPast, present, later, up_to}
use Rattle.panel_rules.specs.Kept.{made_at, kept_at}
use Rattle.panel_rules.specs.Words.{word_made}
use Rattle.panel_laws.specs.HeardWords.{KeptIsWord, HeardIsStamp}
use Rattle.panel_rules.proofs.Turns.{own_turn, run_tail, tick_rises}
use Rattle.panel_rules.proofs.Stays.{up_to_here}
use Rattle.panel_rules.proofs.AnswersTell.{eq_true}
use Rattle.panel_rules.proofs.KeptWords.{IsMade, nothing, in_turn, kept_is}
use Rattle.panel_laws.proofs.DueOn.{up_to_is_past}
use Rattle.panel_rules.proofs.RingWords.{stamp_is}

-- a history up to a tick has no later moment, and has each earlier part that ends by then
up_to_by : (tick : ℕ) (m : List Moment) → tick_of (up_to tick m) ≤ tick
up_to_by tick [] = omega arith
up_to_by tick (moment ∷ before) =
    elim (leb_tells (tick_of (moment ∷ before)) tick) [
      | inl l ↦ rw l.0 l.1
      | inr l ↦ rw l.0 (up_to_by tick before)
    ]

past_up_to : (word m : List Moment) → IsPast word m → IsPast word (up_to (tick_of word) m)
past_up_to word m present = subst (IsPast word) (sym (up_to_here word)) present
past_up_to word m (later moment before h) =
    elim (leb_tells (tick_of (moment ∷ before)) (tick_of word)) [
      | inl l ↦ rw l.0 (later moment before h)
      | inr l ↦ rw l.0 (past_up_to word before h)
    ]

-- at tick 0 nothing has befallen
at_start : (panels : ℕ) (m : List Moment) → IsRun panels m → tick_of m ≡ 0 → m ≡ []
at_start panels [] run z = refl
at_start panels (Began ∷ before) run z = absurd (omega (arith, z))
at_start panels (Happened event ∷ before) run z = absurd (let e = ap is_fresh (at_start panels before run.0 z) in let x = sym e ∙ run.1 in cc)
at_start panels (Turned panel task ∷ before) run z =
    absurd (let e = ap (has_turned panel task) (at_start panels before run.0 z) in let x = sym e ∙ run.1 in cc)
at_start panels (Kept failed ∷ before) run z = absurd (let e = ap has_kept (at_start panels before run.0 z) in let x = sym e ∙ run.1 in cc)

-- once Hold has had its turn in a tick, it has had it
turned_on : (source : ℕ) (before m : List Moment) → IsPast (Turned source Hold ∷ before) m → tick_of m ≤ tick_of before
    → has_turned source Hold m ≡ true
turned_on source before m present l = rw (own_turn source Hold) refl
turned_on source before m (later Began b h) l = absurd (omega (arith, tick_rises (Turned source Hold ∷ before) b h, l))
turned_on source before m (later (Happened event) b h) l = turned_on source before b h l
turned_on source before m (later (Turned panel task) b h) l =
    elim (is_turn source Hold panel task) as (λ c. (if c then true else has_turned source Hold b) ≡ true) [
      | true ↦ refl
      | false ↦
          turned_on source before b h l
    ]
turned_on source before m (later (Kept failed) b h) l = turned_on source before b h l

-- so for the rest of the tick the word that it made then is the latest one
made_on : (panels source : ℕ) (before m : List Moment) → IsPast (Turned source Hold ∷ before) m → IsRun panels m → tick_of m ≤ tick_of before
    → made_at source m ≡ Turned source Hold ∷ before
made_on panels source before m present run l = rw (eq_true source source refl) refl
made_on panels source before m (later Began b h) run l = absurd (omega (arith, tick_rises (Turned source Hold ∷ before) b h, l))
made_on panels source before m (later (Happened event) b h) run l = made_on panels source before b h run.0 l
made_on panels source before m (later (Turned panel Hold) b h) run l =
    elim (eqb_tells panel source) [
      | inl t ↦ absurd (let x = sym (turned_on source before b h l) ∙ ap (λ q. has_turned q Hold b) (sym t.1) ∙ run.1 in cc)
      | inr t ↦ rw t.0 (made_on panels source before b h run.0 l)
    ]
made_on panels source before m (later (Turned panel task) b h) run l = made_on panels source before b h run.0 l
made_on panels source before m (later (Kept failed) b h) run l = made_on panels source before b h run.0 l

-- a word is the latest one up to its own tick
pub latest_then : (panels source : ℕ) (m word : List Moment) → IsMade source word → IsPast word m → IsRun panels m
    → made_at source (up_to (tick_of word) m) ≡ word
latest_then panels source m word (nothing e) past run =
    let z = up_to_by (tick_of word) m in
    let t = ap tick_of e in
    ap (made_at source) (at_start panels (up_to (tick_of word) m) (run_tail panels (up_to (tick_of word) m) m (up_to_is_past (tick_of word) m) run)
    (omega (arith, z, t))) ∙ sym e
latest_then panels source m word (in_turn before e) past run =
    let by = up_to_by (tick_of word) m in
    let t = ap tick_of e in
    made_on panels source before (up_to (tick_of word) m) (subst (λ w. IsPast w (up_to (tick_of word) m)) e (past_up_to word m past))
    (run_tail panels (up_to (tick_of word) m) m (up_to_is_past (tick_of word) m) run) (omega (arith, by, t))
    ∙ sym e

pub kept_is_word : KeptIsWord
kept_is_word site kept done told m panel source run =
    let h = kept_is site.panels panel source m in
    ap (word_made site kept done told source) (sym (latest_then site.panels source m (kept_at site.panels panel source m) h.made h.past run))

pub heard_is_stamp : HeardIsStamp
heard_is_stamp site kept done told m panel source = stamp_is site kept done told source (kept_at site.panels panel source m)
