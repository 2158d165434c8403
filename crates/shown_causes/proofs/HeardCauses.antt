-- A cause may have been heard exactly where the latest one may.
use Rattle.std.proofs.Common.{◌≡◌, ◌↔◌, ℕ, ◌+◌, ◌-◌, ◌≤◌, ◌<◌, ◌==◌, ◌&&◌, ◌||◌, not, Bool, true, false, List, length, Some, None, refl, sym, ◌∙◌, ap, subst}
use Rattle.std.proofs.Common.{arith}
use Rattle.std.specs.Prelude.{IsTrue, nat_le, nat_lt}
use Rattle.std.proofs.lemmas.Bool.{eqb-true}
use Rattle.site_types.specs.declared.retained.Retained.{Retained}
use Rattle.site_types.specs.declared.site.Site.{Site}
use Rattle.site_types.specs.Profile.{network_of}
use Rattle.face_text.specs.declared.timeline.Timeline.{Timeline}
use Rattle.panel_rules.specs.Caused.{IsCausedAt, IsCausedByHand}
use Rattle.panel_rules.specs.Moments.{TickBlock, moments, tick_of}
use Rattle.panel_rules.specs.Ring.{AreJoined}
use Rattle.panel_rules.specs.Zones.{panel_of_zone}
use Rattle.panel_rules.proofs.AnswersTell.{eq_true}
use Rattle.panel_rules.proofs.Bools.{both, parts}
use Rattle.panel_rules.proofs.Floors.{le_from, le_to, lt_from, lt_to}
use Rattle.run_text.proofs.TickTimes.{tick_moments}
use Rattle.audit_rules.specs.CanCause.{CanBeHeard, CanBeHeardByHand, CanBeShown, CanTellFault, own, told}
use Rattle.audit_rules.specs.Hearing.{MayBeHeard}
use Rattle.audit_rules.specs.Shown.{text_tells_fault}
use Rattle.blocked_points.specs.declared.done_operation.DoneOperation.{DoneOperation}
use Rattle.blocked_points.specs.Operations.{done_newest_first}
use Rattle.caused_zones.specs.Stands.{IsLastAlarm, IsLastCall, IsLastCaused}
use Rattle.shown_causes.specs.Faults.{IsLastTold}

module _ (site : Site) (ticks : List TickBlock) (panel source : ℕ) where
  at : tick_of (moments ticks) ≡ length ticks
  at = tick_moments ticks

  -- a later stamp may be heard as well
  later_heard : (stamp last : ℕ) → stamp ≤ last → last ≤ length ticks → MayBeHeard site (moments ticks) panel source stamp
      → MayBeHeard site (moments ticks) panel source last
  later_heard stamp last l by h = (let here = at in record {
    past = omega (arith, by, here);
    recent = λ joined. (let r = h.recent joined in omega (arith, r, l));
  })

  -- by the oldest stamp that counts among joined panels
  pub heard_is : (latest network stamp : ℕ) (joined : Bool) → latest ≡ length ticks → network ≡ network_of site.format → stamp ≤ length ticks
      → (IsTrue joined ↔ AreJoined site.panels (moments ticks) source panel (latest - network + 1) (tick_of (moments ticks)))
      → IsTrue (nat_le (latest - network) stamp || not joined) ↔ MayBeHeard site (moments ticks) panel source stamp
  heard_is latest network stamp joined now size by are = (to, from)
    where
      start : (tick : ℕ) → tick ≡ latest → latest - network + 1 ≡ tick - network_of site.format + 1
      start tick e = omega (arith, e, size)

      same : AreJoined site.panels (moments ticks) source panel (tick_of (moments ticks) - network_of site.format + 1) (tick_of (moments ticks))
          → joined ≡ true
      same j =
          are.1 (subst (λ t. AreJoined site.panels (moments ticks) source panel t (tick_of (moments ticks)))
          (sym (start (tick_of (moments ticks)) (at ∙ sym now))) j)

      recent_by : (le j : Bool) → nat_le (latest - network) stamp ≡ le → joined ≡ j → (le || not j) ≡ true
          → AreJoined site.panels (moments ticks) source panel (tick_of (moments ticks) - network_of site.format + 1) (tick_of (moments ticks))
          → tick_of (moments ticks) ≤ stamp + network_of site.format
      recent_by true j e f h are_joined = let l = le_from (latest - network) stamp e in let here = at in omega (arith, l, now, size, here)
      recent_by false true e f h are_joined = absurd cc
      recent_by false false e f h are_joined = absurd (let g = sym f ∙ same are_joined in cc)

      to : (nat_le (latest - network) stamp || not joined) ≡ true → MayBeHeard site (moments ticks) panel source stamp
      to h = record {
        past = (let here = at in omega (arith, by, here));
        recent = recent_by (nat_le (latest - network) stamp) joined refl refl h;
      }

      from : MayBeHeard site (moments ticks) panel source stamp → (nat_le (latest - network) stamp || not joined) ≡ true
      from h = go joined refl
        where
          late : joined ≡ true → nat_le (latest - network) stamp ≡ true
          late f =
              let r = h.recent (subst (λ t. AreJoined site.panels (moments ticks) source panel t (tick_of (moments ticks)))
              (start (tick_of (moments ticks)) (at ∙ sym now)) (are.0 f)) in
              let here = at in
              le_to (latest - network) stamp (omega (arith, r, here, now, size))

          or_true : (a : Bool) → (a || true) ≡ true
          or_true true = refl
          or_true false = refl

          go : (j : Bool) → joined ≡ j → (nat_le (latest - network) stamp || not joined) ≡ true
          go true f = ap (λ b. b || not joined) (late f)
          go false f = ap (λ b. nat_le (latest - network) stamp || not b) f ∙ or_true (nat_le (latest - network) stamp)

  -- where the latest cause may be heard, there is one that may be
  module _ (Caused : ℕ → Type 0) (last : ℕ) (is_last : IsLastCaused Caused (length ticks) last) where
    pub latest_heard : (stamp : ℕ) → MayBeHeard site (moments ticks) panel source stamp → Caused stamp
        → (1 ≤ last) × MayBeHeard site (moments ticks) panel source last
    latest_heard stamp h c =
        let past = h.past in
        let here = at in
        let l = is_last.latest stamp (omega (arith, past, here)) c in
        (l.0, later_heard stamp last l.1 is_last.past h)

module _ (site : Site) (timeline : Timeline) (kept : Retained) (operations : List DoneOperation) (ticks : List TickBlock) (panel : ℕ) where
  pub zone_heard : (zone last : ℕ) (heard : Bool) → IsLastAlarm site kept operations ticks zone last
      → (1 ≤ last → IsTrue heard ↔ MayBeHeard site (moments ticks) panel (panel_of_zone site zone) last)
      → IsTrue (nat_lt 0 last && heard) ↔ CanBeHeard site timeline kept (done_newest_first operations) (moments ticks) panel zone
  zone_heard zone last heard is_last is = (
    λ h. (let p = parts (nat_lt 0 last) heard h in
        let one = lt_from 0 last p.0 in record { stamp = last; heard = (is one).0 p.1; cause = is_last.is one }),
    λ c. (let l = latest_heard site ticks panel (panel_of_zone site zone)
        (IsCausedAt site kept (done_newest_first operations) (moments ticks) zone) last is_last c.stamp c.heard c.cause in
        both (nat_lt 0 last) heard (lt_to 0 last l.0) ((is l.0).1 l.1)),
  )

  pub call_heard : (zone last : ℕ) (heard : Bool) → IsLastCall site kept operations ticks zone last
      → (1 ≤ last → IsTrue heard ↔ MayBeHeard site (moments ticks) panel (panel_of_zone site zone) last)
      → IsTrue (nat_lt 0 last && heard) ↔ CanBeHeardByHand site timeline kept (done_newest_first operations) (moments ticks) panel zone
  call_heard zone last heard is_last is = (
    λ h. (let p = parts (nat_lt 0 last) heard h in
        let one = lt_from 0 last p.0 in record { stamp = last; heard = (is one).0 p.1; cause = is_last.is one }),
    λ c. (let l = latest_heard site ticks panel (panel_of_zone site zone)
        (IsCausedByHand site kept (done_newest_first operations) (moments ticks) zone) last is_last c.stamp c.heard c.cause in
        both (nat_lt 0 last) heard (lt_to 0 last l.0) ((is l.0).1 l.1)),
  )

  -- a fault
  pub fault_heard : (source last : ℕ) (heard : Bool) → IsLastTold (text_tells_fault timeline source) (length ticks) (Some last)
      → IsTrue heard ↔ MayBeHeard site (moments ticks) panel source last
      → IsTrue heard ↔ CanTellFault site timeline kept (done_newest_first operations) (moments ticks) panel source
  fault_heard source last heard is_last is = (
    λ h. record { stamp = last; heard = is.0 h; shown = is_last.0.1 },
    λ c. (let past = c.heard.past in let here = at site ticks panel source in
        let by = is_last.1 c.stamp (omega (arith, past, here), c.shown) in
        is.1 (later_heard site ticks panel source c.stamp last by is_last.0.0 c.heard)),
  )

  pub no_fault : (source : ℕ) → IsLastTold (text_tells_fault timeline source) (length ticks) None
      → IsTrue false ↔ CanTellFault site timeline kept (done_newest_first operations) (moments ticks) panel source
  no_fault source none = (
    λ h. absurd cc,
    λ c. absurd (let past = c.heard.past in let here = at site ticks panel source in none c.stamp (omega (arith, past, here), c.shown)),
  )

  -- a zone is caused at the last tick
  pub caused_now : (zone last : ℕ) → IsLastAlarm site kept operations ticks zone last → IsTrue (nat_lt 0 last && (last == length ticks))
      ↔ IsCausedAt site kept (done_newest_first operations) (moments ticks) zone (tick_of (moments ticks))
  caused_now zone last is_last = (
    λ h. (let p = parts (nat_lt 0 last) (last == length ticks) h in
        let e = eqb-true last (length ticks) p.1 in
        subst (IsCausedAt site kept (done_newest_first operations) (moments ticks) zone) (e ∙ sym (at site ticks panel panel))
        (is_last.is (lt_from 0 last p.0))),
    λ c. (let here = at site ticks panel panel in
        let l = is_last.latest (tick_of (moments ticks)) (omega (arith, here)) c in
        let up = l.1 in
        let past = is_last.past in
        both (nat_lt 0 last) (last == length ticks) (lt_to 0 last l.0) (eq_true last (length ticks) (omega (arith, up, past, here)))),
  )

  -- at its own panel it can be shown then
  pub own_shown : (zone : ℕ) (caused : Bool) → panel ≡ panel_of_zone site zone
      → IsTrue caused ↔ IsCausedAt site kept (done_newest_first operations) (moments ticks) zone (tick_of (moments ticks))
      → IsTrue caused ↔ CanBeShown site timeline kept (done_newest_first operations) (moments ticks) panel zone
  own_shown zone caused here is = (λ h. own here (is.0 h), λ c. by_cause c)
    where
      by_cause : CanBeShown site timeline kept (done_newest_first operations) (moments ticks) panel zone → caused ≡ true
      by_cause (own e c) = is.1 c
      by_cause (told apart c) = absurd (apart here)

  -- at another one
  pub told_shown : (zone : ℕ) (heard : Bool) → (panel ≡ panel_of_zone site zone → ⊥)
      → IsTrue heard ↔ CanBeHeard site timeline kept (done_newest_first operations) (moments ticks) panel zone
      → IsTrue heard ↔ CanBeShown site timeline kept (done_newest_first operations) (moments ticks) panel zone
  told_shown zone heard apart is = (λ h. told apart (is.0 h), λ c. by_cause c)
    where
      by_cause : CanBeShown site timeline kept (done_newest_first operations) (moments ticks) panel zone → heard ≡ true
      by_cause (own e c) = absurd (apart e)
      by_cause (told away c) = is.1 c

-- a test whose first part is known
pub then_is : (a b : Bool) (P : Type 0) → a ≡ true → IsTrue (a && b) ↔ P → IsTrue b ↔ P
then_is true b P e is = is
then_is false b P e is = absurd cc

pub else_is : (a : Bool) (P : Type 0) → a ≡ false → IsTrue (a && false) ↔ P → IsTrue a ↔ P
else_is false P e is = is
else_is true P e is = absurd cc

pub or_else_is : (a b : Bool) (P : Type 0) → a ≡ false → IsTrue (a || b) ↔ P → IsTrue b ↔ P
or_else_is false b P e is = is
or_else_is true b P e is = absurd cc

-- a recent stamp may be heard, whatever was joined
pub recent_is : (site : Site) (ticks : List TickBlock) (panel source latest network stamp : ℕ) (b : Bool) → latest ≡ length ticks
    → network ≡ network_of site.format → stamp ≤ length ticks → latest - network ≤ stamp → b ≡ true
    → IsTrue b ↔ MayBeHeard site (moments ticks) panel source stamp
recent_is site ticks panel source latest network stamp b now size by recent is = (
  λ h. (let here = tick_moments ticks in record { past = omega (arith, by, here); recent = λ joined. omega (arith, recent, now, size, here) }),
  λ m. is,
)

pub no_cause : (a b : Bool) (P : Type 0) → a ≡ false → IsTrue (a && b) ↔ P → IsTrue (a && false) ↔ P
no_cause false b P e is = is
no_cause true b P e is = absurd cc

pub late_le : (a b : ℕ) → b < a → nat_le a b ≡ false
late_le a b l = go (nat_le a b) refl
  where
    go : (x : Bool) → nat_le a b ≡ x → x ≡ false
    go false e = refl
    go true e = absurd (let h = le_from a b e in omega (arith, h, l))
