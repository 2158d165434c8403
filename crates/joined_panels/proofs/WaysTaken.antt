-- All ways are taken over a tick, one after another.
use Rattle.std.proofs.Common.{◌≡◌, ◌≢◌, ℕ, ◌+◌, ◌≤◌, ◌<◌, Bool, List, length, get_or, replicate, None, true, inl, inr, sym, ◌∙◌, ap, subst, arith}
use Rattle.std.proofs.Math.ListN.{set, length-set}
use Rattle.std.proofs.lemmas.List.{get_or-replicate, get_or-set_same, get_or-set_other}
use Rattle.std.proofs.lemmas.Bool.Decides.{leb_tells}
use Rattle.std.proofs.lemmas.Option.{get_or_from_slice_get, slice_get-get_or}
use Rattle.joined_panels.specs.declared.way.Way.{Way}
use Rattle.joined_panels.specs.Stretches.{IsUpFor, KnowsWay, TakesWay}
use Rattle.joined_panels.proofs.WaysKnown.{same_latest}

pub record AreTaken (up : ℕ → Bool) (now spread : ℕ) (start ways : List Way) (done : ℕ) : Type 0 where
  pub wide : length ways ≡ length start
  pub taken : (place : ℕ) (other : Way) → place < done → TakesWay (up place) now spread (get_or start place other) (get_or ways place other)
  pub others : (place : ℕ) (other : Way) → done ≤ place → get_or ways place other ≡ get_or start place other

-- an element doesn't depend on the value that is read past the end
one_element : (ways : List Way) (place : ℕ) (one other : Way) → place < length ways → get_or ways place other ≡ get_or ways place one
one_element ways place one other l = get_or_from_slice_get ways place (get_or ways place one) other (slice_get-get_or ways place one l)

module _ (up : ℕ → Bool) (now spread : ℕ) (start ways : List Way) (done : ℕ) (are : AreTaken up now spread start ways done) (within : done < length start) where
  inside : done < length ways
  inside = let w = are.wide in omega (arith, within, w)

  module _ (way one : Way) (is_up : Bool) (is : is_up ≡ up done) (takes : TakesWay is_up now spread (get_or ways done one) way) where
    here : (place : ℕ) (other : Way) → place ≡ done → TakesWay (up place) now spread (get_or start place other) (get_or (set ways done way) place other)
    here place other e =
        let was : get_or ways done one ≡ get_or start done other = sym (one_element ways done one other inside) ∙ are.others done other (omega arith) in
        let new = get_or-set_same ways done way other inside in
        subst (λ p. TakesWay (up p) now spread (get_or start p other) (get_or (set ways done way) p other)) (sym e)
        (subst (λ w. TakesWay (up done) now spread (get_or start done other) w) (sym new)
        (subst (λ w. TakesWay (up done) now spread w way) was (subst (λ u. TakesWay u now spread (get_or ways done one) way) is takes)))

    before : (place : ℕ) (other : Way) → place < done → TakesWay (up place) now spread (get_or start place other) (get_or (set ways done way) place other)
    before place other k =
        let off : place ≢ done = omega (arith, k) in
        subst (λ w. TakesWay (up place) now spread (get_or start place other) w) (sym (get_or-set_other ways done place way other off))
        (are.taken place other k)

    place_taken : (place : ℕ) (other : Way) → place < done + 1
        → TakesWay (up place) now spread (get_or start place other) (get_or (set ways done way) place other)
    place_taken place other l =
        elim (leb_tells done place) [ inl h ↦ here place other (let k = h.1 in omega (arith, k, l)) | inr h ↦ before place other h.1 ]

    stays : (place : ℕ) (other : Way) → done + 1 ≤ place → get_or (set ways done way) place other ≡ get_or start place other
    stays place other l =
        let off : place ≢ done = omega (arith, l) in
        get_or-set_other ways done place way other off ∙ are.others place other (omega (arith, l))

    pub taken_more : AreTaken up now spread start (set ways done way) (done + 1)
    taken_more = record { wide = length-set ways done way ∙ are.wide; taken = place_taken; others = stays }

-- a way that is as it was in the tick before stays as it is kept
pub way_stays : (was_up : ℕ → Bool) (spread before : ℕ) (way : Way) → KnowsWay was_up spread before way → was_up (before + 1) ≡ was_up before
    → KnowsWay was_up spread (before + 1) way
way_stays was_up spread before way knows same =
    let past = knows.past in
    record {
      past = omega (arith, past);
      unchanged = λ tick a b. elim (leb_tells tick before) [
        | inl h ↦ knows.unchanged tick a h.1
        | inr h ↦ (let k = h.1 in let e : tick ≡ before + 1 = omega (arith, k, b) in
            ap was_up e ∙ same ∙ knows.unchanged before past (omega arith))
      ];
      changed = knows.changed;
      latest = knows.latest;
    }

-- what is kept of it speaks of the ticks up to the one that is known
pub knows_same : (was_up other : ℕ → Bool) (spread known : ℕ) (way : Way) → ((tick : ℕ) → tick ≤ known → was_up tick ≡ other tick)
    → KnowsWay was_up spread known way → KnowsWay other spread known way
knows_same was_up other spread known way same knows =
    let past = knows.past in
    record {
      past = past;
      unchanged = λ tick a b. sym (same tick b) ∙ knows.unchanged tick a b;
      changed = λ before e. sym (same before (omega (arith, e, past))) ∙ knows.changed before e;
      latest = same_latest (IsUpFor was_up spread way.since) (IsUpFor other spread way.since)
          (λ first h. (let p = h.past in record { past = p; through = λ tick a b. sym (same tick (omega (arith, b, p, past))) ∙ h.through tick a b }))
          (λ first h. (let p = h.past in record { past = p; through = λ tick a b. same tick (omega (arith, b, p, past)) ∙ h.through tick a b }))
          way.window knows.latest;
    }

-- before the first tick every way is up
pub first_known : (was_up : ℕ → Bool) (spread : ℕ) → 1 ≤ spread → was_up 0 ≡ true → KnowsWay was_up spread 0 (record { up = true; since = 0; window = None })
first_known was_up spread some up =
    record {
      past = omega arith;
      unchanged = λ tick a b. (let e : tick ≡ 0 = omega (arith, b) in ap was_up e ∙ up);
      changed = λ before e. absurd (omega (arith, e));
      latest = λ tick h. (let p = h.past in omega (arith, p, some));
    }

pub same_ways : (was_up : ℕ → Bool) (spread place : ℕ) (other : Way) → place < 64
    → KnowsWay was_up spread 0 (record { up = true; since = 0; window = None })
    → KnowsWay was_up spread 0 (get_or (replicate 64 (record { up = true; since = 0; window = None })) place other)
same_ways was_up spread place other l knows =
    subst (KnowsWay was_up spread 0) (sym (get_or-replicate 64 place (record { up = true; since = 0; window = None }) other l)) knows
