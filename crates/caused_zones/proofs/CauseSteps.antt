-- What operations and a tick make of the cause of a zone.
use Rattle.std.proofs.Common.{◌≡◌, ℕ, ◌+◌, ◌≤◌, ◌==◌, ◌&&◌, ◌||◌, not, Bool, true, false, if◌then◌else◌, List, ◌∷◌, inl, inr, refl, sym, ◌∙◌, ap, subst, arith}
use Rattle.std.specs.Prelude.{nat_le}
use Rattle.std.proofs.lemmas.Bool.{eqb-true}
use Rattle.std.proofs.lemmas.Bool.Decides.{leb_tells}
use Rattle.site_types.specs.declared.answer.Answer.{Answer}
use Rattle.site_types.specs.declared.retained.Retained.{Retained}
use Rattle.site_types.specs.declared.site.Site.{Site}
use Rattle.site_types.specs.Done.{Done, moves_floor}
use Rattle.panel_rules.specs.Answers.{answers}
use Rattle.panel_rules.specs.Caused.{IsCausedBy}
use Rattle.panel_rules.specs.Due.{none_in}
use Rattle.panel_rules.specs.Moments.{Moment, tick_of}
use Rattle.panel_rules.specs.Zones.{panel_of_zone}
use Rattle.panel_rules.proofs.Bools.{at_any, parts}
use Rattle.panel_rules.proofs.Floors.{le_to}
use Rattle.panel_rules.proofs.Lags.{stamped_by}
use Rattle.caused_zones.specs.declared.cause.Cause.{Cause}
use Rattle.caused_zones.specs.Causes.{cause_ended, cause_with, last_caused}
use Rattle.caused_zones.specs.Stands.{CauseStands, IsLastCaused, was_given}
use Rattle.caused_zones.specs.Undoing.{cause_unless, was_undone}

-- what was given, was given by now
pub given_by : (site : Site) (moments : List Moment) (zone : ℕ) (test : Answer → Bool) (stamp : ℕ) → was_given site moments zone test stamp ≡ true
    → stamp ≤ tick_of moments
given_by site moments zone test stamp h =
    let g = at_any (λ a. (a.stamp.0 == stamp) && test a) (answers site (panel_of_zone site zone) moments) h in
    let e = eqb-true _ _ (parts (g.item.stamp.0 == stamp) (test g.item) g.passes).0 in
    let by = stamped_by site (panel_of_zone site zone) moments g.place g.item g.is in
    omega (arith, e, by)

differ : (x : Bool) → x ≡ true → x ≡ false → ⊥
differ true p q = absurd cc
differ false p q = absurd cc

module _ (site : Site) (kept : Retained) (done taken : List Done) (before : List Moment) (zone now : ℕ) (given : ℕ → Bool) (Caused :
    ℕ → Type 0) (cause : Cause) (stands : CauseStands site kept done taken before zone now given Caused cause) where
  -- an operation of the last tick is taken
  pub cause_undone : (d : Done) → d.tick ≡ now → ((stamp : ℕ) → given stamp ≡ true → stamp ≤ now)
      → CauseStands site kept done (d ∷ taken) before zone now given Caused (cause_unless (moves_floor site zone d) d.tick cause)
  cause_undone d at by = go (moves_floor site zone d) refl
    where
      undone_now : (stamp : ℕ) → moves_floor site zone d ≡ true → stamp ≤ now → was_undone (moves_floor site zone) stamp (d ∷ taken) ≡ true
      undone_now stamp e l =
          ap (λ b. (b && nat_le stamp d.tick) || was_undone (moves_floor site zone) stamp taken) e
          ∙ ap (λ b. b || was_undone (moves_floor site zone) stamp taken) (le_to stamp d.tick (omega (arith, l, at)))

      not_undone : (stamp : ℕ) → moves_floor site zone d ≡ false
          → was_undone (moves_floor site zone) stamp (d ∷ taken) ≡ was_undone (moves_floor site zone) stamp taken
      not_undone stamp e = ap (λ b. (b && nat_le stamp d.tick) || was_undone (moves_floor site zone) stamp taken) e

      falls_now : (b : Bool) → cause.stands ≡ b → (cause_ended d.tick cause).stands ≡ false
      falls_now true e = ap (λ s. (if s then record { stands = false; until = d.tick } else cause).stands) e
      falls_now false e = ap (λ s. (if s then record { stands = false; until = d.tick } else cause).stands) e ∙ e

      same_last : (b : Bool) → cause.stands ≡ b → last_caused now (cause_ended d.tick cause) ≡ last_caused now cause
      same_last true e =
          ap (λ s. last_caused now (if s then record { stands = false; until = d.tick } else cause)) e
          ∙ at ∙ sym (ap (λ s. if s then now else cause.until) e)
      same_last false e =
          ap (λ s. last_caused now (if s then record { stands = false; until = d.tick } else cause)) e

      go : (b : Bool) → moves_floor site zone d ≡ b → CauseStands site kept done (d ∷ taken) before zone now given Caused (cause_unless b d.tick cause)
      go true e = record {
        stands = λ s. absurd (differ (cause_ended d.tick cause).stands s (falls_now cause.stands refl));
        falls = λ f stamp g. undone_now stamp e (by stamp g);
        last = subst (IsLastCaused Caused now) (sym (same_last cause.stands refl)) stands.last;
      }
      go false e = record {
        stands = λ s. (let r = stands.stands s in (r.0, r.1, not_undone r.0 e ∙ r.2));
        falls = λ f stamp g. not_undone stamp e ∙ stands.falls f stamp g;
        last = stands.last;
      }

module _ (site : Site) (kept : Retained) (done taken : List Done) (old new : List Moment) (zone : ℕ) (test later : Answer → Bool) (cause : Cause)
    (n now : ℕ) (next : now ≡ n + 1) (old_at : tick_of old ≡ n) (at : tick_of new ≡ now)
    (stands : CauseStands site kept done taken old zone n (was_given site old zone test) (λ t. IsCausedBy site done old zone t test) cause)
    (same : (stamp : ℕ) → stamp ≤ n → was_given site new zone later stamp ≡ was_given site old zone test stamp)
    (none_is : (first : ℕ) → none_in (moves_floor site zone) first now done ≡ not (was_undone (moves_floor site zone) first taken))
    (none_yet : was_undone (moves_floor site zone) now taken ≡ false) where
  by_now : (stamp : ℕ) → was_given site new zone later stamp ≡ true → stamp ≤ now
  by_now stamp h = let b = given_by site new zone later stamp h in omega (arith, b, at)

  caused_later : (t : ℕ) → t ≤ n → IsCausedBy site done old zone t test → IsCausedBy site done new zone t later
  caused_later t by c = (let past = c.past in record {
    stamp = c.stamp;
    past = past;
    given = same c.stamp (omega (arith, by, past)) ∙ c.given;
    floor = c.floor;
  })

  caused_before : (t : ℕ) → t ≤ n → IsCausedBy site done new zone t later → IsCausedBy site done old zone t test
  caused_before t by c = (let past = c.past in record {
    stamp = c.stamp;
    past = past;
    given = sym (same c.stamp (omega (arith, by, past))) ∙ c.given;
    floor = c.floor;
  })

  caused_now : (stamp : ℕ) → was_given site new zone later stamp ≡ true → was_undone (moves_floor site zone) stamp taken ≡ false
      → IsCausedBy site done new zone now later
  caused_now stamp given lasts = record { stamp = stamp; past = by_now stamp given; given = given; floor = none_is stamp ∙ ap not lasts }

  pub cause_after : (g : Bool) → was_given site new zone later now ≡ g
      → CauseStands site kept done taken new zone now (was_given site new zone later) (λ t. IsCausedBy site done new zone t later) (cause_with g cause)
  cause_after true e = record {
    stands = λ s. (now, e, none_yet);
    falls = λ f stamp h. absurd cc;
    last = record {
      is = λ some. caused_now now e none_yet;
      past = omega arith;
      latest = λ t by c. (omega (arith, next), by);
    };
  }
  cause_after false e = record {
    stands = λ s. (let r = stands.stands s in let by = old_by r.0 r.1 in (r.0, same r.0 by ∙ r.1, r.2));
    falls = falls_new;
    last = by_stands cause.stands refl;
  }
    where
      old_by : (stamp : ℕ) → was_given site old zone test stamp ≡ true → stamp ≤ n
      old_by stamp h = let b = given_by site old zone test stamp h in omega (arith, b, old_at)

      falls_new : cause.stands ≡ false → (stamp : ℕ) → was_given site new zone later stamp ≡ true → was_undone (moves_floor site zone) stamp taken ≡ true
      falls_new f stamp h =
          elim (leb_tells stamp n) [
            | inl l ↦ stands.falls f stamp (sym (same stamp l.1) ∙ h)
            | inr l ↦
                (let k = l.1 in let by = by_now stamp h in let here : stamp ≡ now = omega (arith, k, by, next) in
                absurd (differ (was_given site new zone later now) (subst (λ s. was_given site new zone later s ≡ true) here h) e))
          ]

      by_stands : (b : Bool) → cause.stands ≡ b → IsLastCaused (λ t. IsCausedBy site done new zone t later) now (last_caused now cause)
      by_stands true s =
          (let r = stands.stands s in
          let by = old_by r.0 r.1 in
          subst (IsLastCaused (λ t. IsCausedBy site done new zone t later) now) (sym (ap (λ x. if x then now else cause.until) s)) (record {
            is = λ some. caused_now r.0 (same r.0 by ∙ r.1) r.2;
            past = omega arith;
            latest = λ t l c. (omega (arith, next), l);
          }))
      by_stands false s =
          (let was : last_caused n cause ≡ cause.until = ap (λ x. if x then n else cause.until) s in
          let last = subst (IsLastCaused (λ t. IsCausedBy site done old zone t test) n) was stands.last in
          let past = last.past in
          subst (IsLastCaused (λ t. IsCausedBy site done new zone t later) now) (sym (ap (λ x. if x then now else cause.until) s)) (record {
            is = λ some. caused_later cause.until past (last.is some);
            past = omega (arith, past, next);
            latest = λ t l c. elim (leb_tells t n) [
              | inl h ↦ last.latest t h.1 (caused_before t h.1 c)
              | inr h ↦ (let k = h.1 in let here : t ≡ now = omega (arith, k, l, next) in
                  absurd (not_now s (subst (λ x. IsCausedBy site done new zone x later) here c)))
            ];
          }))
        where
          not_now : cause.stands ≡ false → IsCausedBy site done new zone now later → ⊥
          not_now f c =
              let undone = falls_new f c.stamp c.given in
              differ (not (was_undone (moves_floor site zone) c.stamp taken)) (sym (none_is c.stamp) ∙ c.floor) (ap not undone)
