-- A setting changes in rising ticks.
use Rattle.std.proofs.Common.{◌≡◌, ℕ, zero, suc, ◌+◌, ◌<◌, List, [], ◌∷◌, ◌++◌, Option, Some, None, slice_get, inl}
use Rattle.std.proofs.Common.{inr, Bool, true, false, ◌==◌, ◌&&◌, ◌||◌, if◌then◌else◌, refl, sym, ◌∙◌, ap, subst}
use Rattle.std.proofs.Common.{arith}
use Rattle.std.specs.Prelude.{nat_le, nat_lt}
use Rattle.std.specs.List.{list_any, AllByRecursion}
use Rattle.std.proofs.lemmas.Bool.Decides.{leb_tells}
use Rattle.tick_units.specs.declared.task.Task.TheVariants.{Desk}
use Rattle.site_types.specs.declared.retained.Retained.{Retained}
use Rattle.site_types.specs.declared.site.Site.{Site}
use Rattle.site_types.specs.Done.{Done, Setting, is_setting, is_on, value_set}
use Rattle.site_types.specs.Limits.{most_operations}
use Rattle.site_types.proofs.Done.{same_setting_is, same_setting_itself}
use Rattle.access_levels.specs.Levels.{needed_by}
use Rattle.panel_rules.specs.Moments.{Moment, Began, Happened, Turned, Kept, tick_of}
use Rattle.panel_rules.specs.Operations.{Request, Busy, Denied, Waiting, Already, WasDone, Operations, setting_asked}
use Rattle.panel_rules.specs.Operations.{requests_in, requests, is_unsettled, stands_so, setting_reply, done_in}
use Rattle.panel_rules.specs.Operations.{after_reply, after_request, after_desk, do_all, operations}
use Rattle.panel_laws.specs.OperationLaws.{SettingsChangeOnce}
use Rattle.panel_rules.proofs.Bools.{parts}
use Rattle.panel_rules.proofs.Counting.{each_at, each_to, each_more, each_filtered}
use Rattle.panel_laws.proofs.AnswerLaws.{eq_is}

-- all that were done on a setting were done before a tick
abbrev Before : ℕ → Setting → List Done → Type 0
Before tick setting done = AllByRecursion (λ (e : Done). is_on setting e ≡ true → e.tick < tick) done

abbrev Rises : List Done → Type 0
Rises [] = Unit {0}
Rises (d ∷ done) = ((setting : Setting) → is_on setting d ≡ true → Before d.tick setting done) × Rises done

-- none of these is on the setting
abbrev NoneOn : Setting → List Request → Type 0
NoneOn setting waiting = AllByRecursion (λ (q : Request). is_setting setting (setting_asked q) ≡ false) waiting

-- of those that wait no two are on one setting, and each one's setting was last changed before the tick
abbrev AreApart : ℕ → List Request → List Done → Type 0
AreApart tick [] done = Unit {0}
AreApart tick (p ∷ waiting) done =
    ((setting : Setting) → is_setting setting (setting_asked p) ≡ true → NoneOn setting waiting × Before tick setting done)
    × AreApart tick waiting done

record Stands (tick : ℕ) (so_far : Operations) : Type 0 where
  rises : Rises so_far.done
  apart : AreApart tick so_far.waiting so_far.done

apart_later : (tick : ℕ) (waiting : List Request) (done : List Done) → AreApart tick waiting done → AreApart (tick + 1) waiting done
apart_later tick [] done h = tt
apart_later tick (p ∷ waiting) done h = (
  (λ setting t. (let g = h.0 setting t in (
    g.0,
    each_to (λ (e : Done). is_on setting e ≡ true → e.tick < tick) (λ (e : Done). is_on setting e ≡ true → e.tick < tick + 1) done
        (λ e f s. (let l = f s in omega (arith, l))) g.1,
  ))),
  apart_later tick waiting done h.1,
)

-- two settings that an operation is on are one
one_setting : (a b : Setting) (o : Option Setting) → is_setting a o ≡ true → is_setting b o ≡ true → a ≡ b
one_setting a b None s t = cc
one_setting a b (Some c) s t = same_setting_is a c s ∙ sym (same_setting_is b c t)

or_no : (a b : Bool) → (a || b) ≡ false → (a ≡ false) × (b ≡ false)
or_no true b h = absurd cc
or_no false b h = (refl, h)

any_none : {X : Type 0} (test : X → Bool) (xs : List X) → list_any test xs ≡ false → AllByRecursion (λ x. test x ≡ false) xs
any_none test [] h = tt
any_none test (x ∷ xs) h = let p = or_no (test x) (list_any test xs) h in (p.0, any_none test xs p.1)

done_before : (tick : ℕ) (setting : Setting) (done : List Done) → list_any (λ (d : Done). is_on setting d && nat_le tick d.tick) done ≡ false
    → Before tick setting done
done_before tick setting [] h = tt
done_before tick setting (d ∷ done) h =
    let p = or_no (is_on setting d && nat_le tick d.tick) (list_any (λ (d : Done). is_on setting d && nat_le tick d.tick) done) h in
    (less (is_on setting d) p.0, done_before tick setting done p.1)
  where
    less : (b : Bool) → (b && nat_le tick d.tick) ≡ false → b ≡ true → d.tick < tick
    less true n t = elim (leb_tells tick d.tick) [ inl h ↦ (let e = sym h.0 ∙ n in absurd cc) | inr h ↦ h.1 ]
    less false n t = absurd cc

-- one more waits
apart_more : (tick : ℕ) (r : Request) (waiting : List Request) (done : List Done)
    → ((setting : Setting) → is_setting setting (setting_asked r) ≡ true → NoneOn setting waiting × Before tick setting done)
    → AreApart tick waiting done → AreApart tick (waiting ++ r ∷ []) done
apart_more tick r [] done fresh h = ((λ setting t. (tt, (fresh setting t).1)), tt)
apart_more tick r (p ∷ waiting) done fresh h = (
  (λ setting t. (let g = h.0 setting t in (
    each_more (λ (q : Request). is_setting setting (setting_asked q) ≡ false) waiting r g.0
        (other setting (is_setting setting (setting_asked r)) refl t),
    g.1,
  ))),
  apart_more tick r waiting done (λ setting t. (let g = fresh setting t in (g.0.1, g.1))) h.1,
)
  where
    other : (setting : Setting) (b : Bool) → is_setting setting (setting_asked r) ≡ b → is_setting setting (setting_asked p) ≡ true
        → is_setting setting (setting_asked r) ≡ false
    other setting true e t = let g = (fresh setting e).0.0 in absurd (let x = sym g ∙ t in cc)
    other setting false e t = e

-- one more was done, on a setting that none of those that wait is on
apart_done : (tick : ℕ) (d : Done) (waiting : List Request) (done : List Done)
    → ((setting : Setting) → is_on setting d ≡ true → NoneOn setting waiting) → AreApart tick waiting done → AreApart tick waiting (d ∷ done)
apart_done tick d [] done none h = tt
apart_done tick d (p ∷ waiting) done none h = (
  (λ setting t. (let g = h.0 setting t in (g.0, ((λ s. absurd (let e = (none setting s).0 in let x = sym e ∙ t in cc)), g.1)))),
  apart_done tick d waiting done (λ setting s. (none setting s).1) h.1,
)

-- ---- Desk

-- what goes to Keep
accepted : (tick : ℕ) (r : Request) (so_far : Operations) → Stands tick so_far
    → ((setting : Setting) → is_setting setting (setting_asked r) ≡ true → is_unsettled setting tick so_far ≡ false)
    → Stands tick (after_reply r so_far None)
accepted tick r so_far h settled = record {
  rises = h.rises;
  apart = apart_more tick r so_far.waiting so_far.done
      (λ setting t.
      (let p =
      or_no (list_any (λ (q : Request). is_setting setting (setting_asked q)) so_far.waiting)
      (list_any (λ (d : Done). is_on setting d && nat_le tick d.tick) so_far.done) (settled setting t) in
      (any_none (λ (q : Request). is_setting setting (setting_asked q)) so_far.waiting p.0, done_before tick setting so_far.done p.1))) h.apart;
}

-- what is done at once is on no setting
done_at_once : (tick : ℕ) (r : Request) (so_far : Operations) → Stands tick so_far → setting_asked r ≡ None
    → Stands tick (after_reply r so_far (Some WasDone))
done_at_once tick r so_far h none = record {
  rises = ((λ setting s. absurd (never setting s)), h.rises);
  apart = apart_done tick (done_in r.tick r) so_far.waiting so_far.done (λ setting s. absurd (never setting s)) h.apart;
}
  where
    never : (setting : Setting) → is_setting setting (setting_asked r) ≡ true → ⊥
    never setting s = let e = ap (is_setting setting) none in let x = sym e ∙ s in cc

module _ (site : Site) (kept : Retained) (tick : ℕ) (r : Request) (so_far : Operations) (same : r.tick ≡ tick) (h : Stands tick so_far) where
  by_setting : (o : Option Setting) → setting_asked r ≡ o → Stands tick (after_reply r so_far (setting_reply site kept r so_far o))
  by_setting None e = done_at_once tick r so_far h e
  by_setting (Some setting) e = go (is_unsettled setting r.tick so_far) refl
    where
      go : (b : Bool) → is_unsettled setting r.tick so_far ≡ b
          → Stands tick
          (after_reply r so_far
          (if b then Some Waiting else (if stands_so site kept setting r.tick (value_set r.operation) so_far.done then Some Already else None)))
      go true u = record { rises = h.rises; apart = h.apart }
      go false u = already (stands_so site kept setting r.tick (value_set r.operation) so_far.done)
        where
          already : (b : Bool) → Stands tick (after_reply r so_far (if b then Some Already else None))
          already true = record { rises = h.rises; apart = h.apart }
          already false =
              accepted tick r so_far h
              (λ other t. (let one = one_setting other setting (setting_asked r) t (ap (is_setting setting) e ∙ same_setting_itself setting) in
              ap (λ s. is_unsettled s tick so_far) one ∙ ap (λ x. is_unsettled setting x so_far) (sym same) ∙ u))

  by_row : (busy denied : Bool)
      → Stands tick
      (after_reply r so_far
      (if busy then Some Busy else (if denied then Some (Denied (needed_by r.operation) r.level) else setting_reply site kept r so_far
      (setting_asked r))))
  by_row true denied = record { rises = h.rises; apart = h.apart }
  by_row false true = record { rises = h.rises; apart = h.apart }
  by_row false false = by_setting (setting_asked r) refl

  by_reply : Stands tick (after_request site kept so_far r)
  by_reply = by_row (nat_le most_operations r.earlier) (nat_lt r.level (needed_by r.operation))

by_desk : (site : Site) (kept : Retained) (tick : ℕ) (taken : List Request) (so_far : Operations)
    → AllByRecursion (λ (r : Request). r.tick ≡ tick) taken → Stands tick so_far → Stands tick (after_desk site kept taken so_far)
by_desk site kept tick [] so_far all h = h
by_desk site kept tick (r ∷ taken) so_far all h =
    by_desk site kept tick taken (after_request site kept so_far r) all.1 (by_reply site kept tick r so_far all.0 h)

taken_now : (panel tick : ℕ) (asked : List Request) → AllByRecursion (λ (r : Request). r.tick ≡ tick) (requests_in panel tick asked)
taken_now panel tick asked =
    each_filtered (λ (r : Request). r.tick ≡ tick) (λ (r : Request). (r.panel == panel) && (r.tick == tick)) asked
    (λ k r e t. eq_is r.tick tick (parts (r.panel == panel) (r.tick == tick) t).1)

-- ---- Keep

by_keep : (tick : ℕ) (waiting : List Request) (done : List Done) → Rises done → AreApart tick waiting done → Rises (do_all tick waiting done)
by_keep tick [] done rises h = rises
by_keep tick (p ∷ waiting) done rises h =
    by_keep tick waiting (done_in tick p ∷ done) ((λ setting s. (h.0 setting s).1), rises)
    (apart_done tick (done_in tick p) waiting done (λ setting s. (h.0 setting s).0) h.1)

stands : (site : Site) (kept : Retained) (moments : List Moment) → Stands (tick_of moments) (operations site kept moments)
stands site kept [] = record { rises = tt; apart = tt }
stands site kept (Began ∷ before) = let h = stands site kept before in
    record { rises = h.rises; apart = apart_later (tick_of before) (operations site kept before).waiting (operations site kept before).done h.apart }
stands site kept (Happened event ∷ before) = let h = stands site kept before in record { rises = h.rises; apart = h.apart }
stands site kept (Turned panel Desk ∷ before) =
    by_desk site kept (tick_of before) (requests_in panel (tick_of before) (requests site before)) (operations site kept before)
    (taken_now panel (tick_of before) (requests site before)) (stands site kept before)
stands site kept (Turned panel task ∷ before) = let h = stands site kept before in record { rises = h.rises; apart = h.apart }
stands site kept (Kept true ∷ before) = let h = stands site kept before in record { rises = h.rises; apart = tt }
stands site kept (Kept false ∷ before) = let h = stands site kept before in
    record { rises = by_keep (tick_of before) (operations site kept before).waiting (operations site kept before).done h.rises h.apart; apart = tt }

rises_at : (done : List Done) (setting : Setting) (i j : ℕ) (d e : Done) → Rises done → slice_get done i ≡ Some d → slice_get done j ≡ Some e
    → is_on setting d ≡ true → is_on setting e ≡ true → i < j → e.tick < d.tick
rises_at [] setting i j d e rises is is' s t l = absurd cc
rises_at (x ∷ done) setting zero zero d e rises is is' s t l = absurd (omega (arith, l))
rises_at (x ∷ done) setting zero (suc j) d e rises is is' s t l =
    let same : x ≡ d = cc in
    subst (λ (y : Done). e.tick < y.tick) same
    (each_at (λ (y : Done). is_on setting y ≡ true → y.tick < x.tick) done j e (rises.0 setting (ap (is_on setting) same ∙ s)) is' t)
rises_at (x ∷ done) setting (suc i) zero d e rises is is' s t l = absurd (omega (arith, l))
rises_at (x ∷ done) setting (suc i) (suc j) d e rises is is' s t l = rises_at done setting i j d e rises.1 is is' s t (omega (arith, l))

pub settings_change_once : SettingsChangeOnce
settings_change_once site kept moments setting i j d e is is' s t l =
    rises_at (operations site kept moments).done setting i j d e (stands site kept moments).rises is is' s t l
