-- What the operations that were done decide at a tick, and what later ones leave of it.
use Rattle.std.proofs.Common.{◌≡◌, ◌⊎◌, inl, inr, ℕ, ◌<◌, ◌≤◌, max, Bool, true, false, List, [], ◌∷◌, ◌++◌, Option}
use Rattle.std.proofs.Common.{Some, None, zero, suc, ◌==◌, ◌&&◌, ◌||◌, nat_lt, nat_le, slice_get, if◌then◌else◌, refl}
use Rattle.std.proofs.Common.{sym, ◌∙◌, ap, subst, arith}
use Rattle.std.proofs.lemmas.Bool.Decides.{nat_tests}
use Rattle.std.proofs.lemmas.Option.{same_Some}
use Rattle.site_types.specs.declared.site.Site.{Site}
use Rattle.site_types.specs.declared.point.Point.{Point}
use Rattle.site_types.specs.declared.retained.Retained.{Retained}
use Rattle.site_types.specs.declared.item.Item.{Item}
use Rattle.site_types.specs.declared.operation.Operation.TheVariants.{Enable}
use Rattle.site_types.specs.Done.{Done, Setting, PointOff, ZoneOff, OutputOff, InTest, DelaysOff, Counter}
use Rattle.site_types.specs.Done.{same_setting, is_on, is_override, override_done_in, silence_then, silence_before}
use Rattle.site_types.specs.Done.{value_set, in_force, latest_before, moves_floor, floor_before, cancels}
use Rattle.site_types.specs.Done.{cancelled_before, mutes, muted_before, is_zone_blocked, is_blocked, AreBy}
use Rattle.site_types.proofs.LaterDone.{AreFrom}

pub lt_tells : (a b : ℕ) → ((nat_lt a b ≡ true) × (a < b)) ⊎ ((nat_lt a b ≡ false) × (b ≤ a))
lt_tells a b = tells (nat_lt a b) refl
  where
    tells : (c : Bool) → nat_lt a b ≡ c → ((nat_lt a b ≡ true) × (a < b)) ⊎ ((nat_lt a b ≡ false) × (b ≤ a))
    tells true e = inl (e, grind (arith, nat_tests, e))
    tells false e = inr (e, grind (arith, nat_tests, e))

pub lt_true : (a b : ℕ) → a < b → nat_lt a b ≡ true
lt_true a b h = grind (arith, nat_tests)

pub lt_false : (a b : ℕ) → b ≤ a → nat_lt a b ≡ false
lt_false a b h = grind (arith, nat_tests)

and_false : (b : Bool) {c : Bool} → c ≡ false → (b && c) ≡ false
and_false true e = e
and_false false e = refl

and_true : (b : Bool) {c : Bool} → c ≡ true → (b && c) ≡ b
and_true true e = e
and_true false e = refl

-- an operation decides nothing up to its own tick
pub in_force-yet : (site : Site) (kept : Retained) (setting : Setting) (x : ℕ) (d : Done) (done : List Done) → x ≤ d.tick
    → in_force site kept setting x (d ∷ done) ≡ in_force site kept setting x done
in_force-yet site kept setting x d done le =
    ap (λ b. if b then value_set d.operation else in_force site kept setting x done) (and_false (is_on setting d) (lt_false d.tick x le))

-- after its own tick an operation on a setting decides it, and no other setting
pub in_force-then : (site : Site) (kept : Retained) (setting : Setting) (x : ℕ) (d : Done) (done : List Done) → d.tick < x
    → in_force site kept setting x (d ∷ done) ≡ (if is_on setting d then value_set d.operation else in_force site kept setting x done)
in_force-then site kept setting x d done lt =
    ap (λ b. if b then value_set d.operation else in_force site kept setting x done) (and_true (is_on setting d) (lt_true d.tick x lt))

pub in_force-later : (site : Site) (kept : Retained) (setting : Setting) (x : ℕ) (new old : List Done) → AreFrom x new
    → in_force site kept setting x (new ++ old) ≡ in_force site kept setting x old
in_force-later site kept setting x [] old h = refl
in_force-later site kept setting x (d ∷ ds) old h = in_force-yet site kept setting x d (ds ++ old) h.0 ∙ in_force-later site kept setting x ds old h.1

pub latest-yet : (test : Done → Bool) (x : ℕ) (d : Done) (done : List Done) → x ≤ d.tick → latest_before test x (d ∷ done) ≡ latest_before test x done
latest-yet test x d done le =
    ap (λ b. if b then max d.tick (latest_before test x done) else latest_before test x done) (and_false (test d) (lt_false d.tick x le))

pub latest-then : (test : Done → Bool) (x : ℕ) (d : Done) (done : List Done) → d.tick < x
    → latest_before test x (d ∷ done) ≡ (if test d then max d.tick (latest_before test x done) else latest_before test x done)
latest-then test x d done lt =
    ap (λ b. if b then max d.tick (latest_before test x done) else latest_before test x done) (and_true (test d) (lt_true d.tick x lt))

pub latest-later : (test : Done → Bool) (x : ℕ) (new old : List Done) → AreFrom x new → latest_before test x (new ++ old) ≡ latest_before test x old
latest-later test x [] old h = refl
latest-later test x (d ∷ ds) old h = latest-yet test x d (ds ++ old) h.0 ∙ latest-later test x ds old h.1

-- it lies before x, or there is none
pub latest_below : (test : Done → Bool) (x : ℕ) (done : List Done) → (latest_before test x done < x) ⊎ (latest_before test x done ≡ 0)
latest_below test x [] = inr refl
latest_below test x (d ∷ ds) = below (test d) (lt_tells d.tick x) (latest_below test x ds)
  where
    below : (b : Bool) → ((nat_lt d.tick x ≡ true) × (d.tick < x)) ⊎ ((nat_lt d.tick x ≡ false) × (x ≤ d.tick))
        → (latest_before test x ds < x) ⊎ (latest_before test x ds ≡ 0)
        → ((if b && nat_lt d.tick x then max d.tick (latest_before test x ds) else latest_before test x ds) < x)
        ⊎ ((if b && nat_lt d.tick x then max d.tick (latest_before test x ds) else latest_before test x ds) ≡ 0)
    below false t h = h
    below true (inl before) (inl less) = rw before.0 (let lt = before.1 in inl (omega (arith, less, lt)))
    below true (inl before) (inr none) = rw before.0 (let lt = before.1 in inl (omega (arith, none, lt)))
    below true (inr after) h = rw after.0 h

step_between : (r : Bool) (tick stamp last f g : ℕ) → stamp ≤ last → (g ≤ f) ⊎ (stamp ≤ g) → f ≤ g
    → ((if r && nat_lt tick last then max tick g else g) ≤ (if r && nat_lt tick stamp then max tick f else f))
    ⊎ (stamp ≤ (if r && nat_lt tick last then max tick g else g))
step_between false tick stamp last f g le h up = h
step_between true tick stamp last f g le h up = elim (lt_tells tick stamp) [
  | inl before ↦ (let later : nat_lt tick last ≡ true = (let l = before.1 in grind (arith, nat_tests, l, le)) in
      rw before.0 (rw later (elim h [ inl a ↦ inl (omega (arith, a)) | inr b ↦ inr (omega (arith, b)) ])))
  | inr after ↦ rw after.0 (elim (lt_tells tick last) [
    | inl within ↦ rw within.0 (inr (omega (arith, after.1)))
    | inr beyond ↦ rw beyond.0 h
  ])
]

step_up : (r : Bool) (tick stamp last f g : ℕ) → stamp ≤ last → f ≤ g
    → (if r && nat_lt tick stamp then max tick f else f) ≤ (if r && nat_lt tick last then max tick g else g)
step_up false tick stamp last f g le up = up
step_up true tick stamp last f g le up = elim (lt_tells tick stamp) [
  | inl before ↦ (let later : nat_lt tick last ≡ true = (let l = before.1 in grind (arith, nat_tests, l, le)) in
      rw before.0 (rw later (omega (arith, up))))
  | inr after ↦ rw after.0 (elim (lt_tells tick last) [ inl within ↦ rw within.0 (omega (arith, up)) | inr beyond ↦ rw beyond.0 up ])
]

-- it rises with x
pub latest_up : (test : Done → Bool) (x y : ℕ) (done : List Done) → x ≤ y → latest_before test x done ≤ latest_before test y done
latest_up test x y [] le = omega arith
latest_up test x y (d ∷ ds) le = step_up (test d) d.tick x y _ _ le (latest_up test x y ds le)

-- what is seen at a later tick alone lies at or after the earlier one
pub latest_between : (test : Done → Bool) (x y : ℕ) (done : List Done) → x ≤ y → (latest_before test y done ≤ latest_before test x done)
    ⊎ (x ≤ latest_before test y done)
latest_between test x y [] le = inl (omega arith)
latest_between test x y (d ∷ ds) le = step_between (test d) d.tick x y _ _ le (latest_between test x y ds le) (latest_up test x y ds le)

pub floor-later : (site : Site) (zone x : ℕ) (new old : List Done) → AreFrom x new
    → floor_before site zone x (new ++ old) ≡ floor_before site zone x old
floor-later site zone x new old h = latest-later (moves_floor site zone) x new old h

pub floor_below : (site : Site) (zone x : ℕ) (done : List Done) → (floor_before site zone x done < x) ⊎ (floor_before site zone x done ≡ 0)
floor_below site zone x done = latest_below (moves_floor site zone) x done

pub floor_up : (site : Site) (zone x y : ℕ) (done : List Done) → x ≤ y → floor_before site zone x done ≤ floor_before site zone y done
floor_up site zone x y done le = latest_up (moves_floor site zone) x y done le

pub floor_between : (site : Site) (zone x y : ℕ) (done : List Done) → x ≤ y → (floor_before site zone y done ≤ floor_before site zone x done)
    ⊎ (x ≤ floor_before site zone y done)
floor_between site zone x y done le = latest_between (moves_floor site zone) x y done le

pub floor-yet : (site : Site) (zone x : ℕ) (d : Done) (done : List Done) → x ≤ d.tick
    → floor_before site zone x (d ∷ done) ≡ floor_before site zone x done
floor-yet site zone x d done le = latest-yet (moves_floor site zone) x d done le

pub floor-then : (site : Site) (zone x : ℕ) (d : Done) (done : List Done) → d.tick < x
    → floor_before site zone x (d ∷ done)
    ≡ (if moves_floor site zone d then max d.tick (floor_before site zone x done) else floor_before site zone x done)
floor-then site zone x d done lt = latest-then (moves_floor site zone) x d done lt

-- enabling moves no floor
pub floor-enable : (site : Site) (zone x tick panel : ℕ) (item : Item) (done : List Done)
    → floor_before site zone x (record { tick = tick; panel = panel; operation = Enable item } ∷ done) ≡ floor_before site zone x done
floor-enable site zone x tick panel item done = refl

pub cancelled-later : (zone x : ℕ) (new old : List Done) → AreFrom x new → cancelled_before zone x (new ++ old) ≡ cancelled_before zone x old
cancelled-later zone x new old h = latest-later (cancels zone) x new old h

pub cancelled-yet : (zone x : ℕ) (d : Done) (done : List Done) → x ≤ d.tick → cancelled_before zone x (d ∷ done) ≡ cancelled_before zone x done
cancelled-yet zone x d done le = latest-yet (cancels zone) x d done le

pub cancelled-then : (zone x : ℕ) (d : Done) (done : List Done) → d.tick < x
    → cancelled_before zone x (d ∷ done) ≡ (if cancels zone d then max d.tick (cancelled_before zone x done) else cancelled_before zone x done)
cancelled-then zone x d done lt = latest-then (cancels zone) x d done lt

pub muted-later : (panel x : ℕ) (new old : List Done) → AreFrom x new → muted_before panel x (new ++ old) ≡ muted_before panel x old
muted-later panel x new old h = latest-later (mutes panel) x new old h

pub muted-yet : (panel x : ℕ) (d : Done) (done : List Done) → x ≤ d.tick → muted_before panel x (d ∷ done) ≡ muted_before panel x done
muted-yet panel x d done le = latest-yet (mutes panel) x d done le

pub muted-then : (panel x : ℕ) (d : Done) (done : List Done) → d.tick < x
    → muted_before panel x (d ∷ done) ≡ (if mutes panel d then max d.tick (muted_before panel x done) else muted_before panel x done)
muted-then panel x d done lt = latest-then (mutes panel) x d done lt

pub override-yet : (panel first x : ℕ) (d : Done) (done : List Done) → x ≤ d.tick
    → override_done_in panel first x (d ∷ done) ≡ override_done_in panel first x done
override-yet panel first x d done le =
    ap (λ b. b || override_done_in panel first x done)
    (and_false (d.panel == panel && is_override d.operation && nat_le first d.tick) (lt_false d.tick x le))

pub override-later : (panel first x : ℕ) (new old : List Done) → AreFrom x new
    → override_done_in panel first x (new ++ old) ≡ override_done_in panel first x old
override-later panel first x [] old h = refl
override-later panel first x (d ∷ ds) old h = override-yet panel first x d (ds ++ old) h.0 ∙ override-later panel first x ds old h.1

pub silence-yet : (panel x : ℕ) (d : Done) (done : List Done) → x ≤ d.tick → silence_before panel x (d ∷ done) ≡ silence_before panel x done
silence-yet panel x d done le =
    ap (λ b. if b then silence_then d.operation d.tick (silence_before panel x done) else silence_before panel x done)
    (and_false (d.panel == panel) (lt_false d.tick x le))

pub silence-later : (panel x : ℕ) (new old : List Done) → AreFrom x new → silence_before panel x (new ++ old) ≡ silence_before panel x old
silence-later panel x [] old h = refl
silence-later panel x (d ∷ ds) old h = silence-yet panel x d (ds ++ old) h.0 ∙ silence-later panel x ds old h.1

zone_blocked-later : (site : Site) (kept : Retained) (o : Option Point) (x : ℕ) (new old : List Done) → AreFrom x new
    → is_zone_blocked site kept (new ++ old) o x ≡ is_zone_blocked site kept old o x
zone_blocked-later site kept None x new old h = refl
zone_blocked-later site kept (Some p) x new old h =
    ap (λ b. b || in_force site kept (InTest p.zone) x (new ++ old)) (in_force-later site kept (ZoneOff p.zone) x new old h)
    ∙ ap (λ b. in_force site kept (ZoneOff p.zone) x old || b) (in_force-later site kept (InTest p.zone) x new old h)

pub blocked-later : (site : Site) (kept : Retained) (point x : ℕ) (new old : List Done) → AreFrom x new
    → is_blocked site kept (new ++ old) point x ≡ is_blocked site kept old point x
blocked-later site kept point x new old h =
    ap (λ b. b || is_zone_blocked site kept (new ++ old) (slice_get site.points point) x) (in_force-later site kept (PointOff point) x new old h)
    ∙ ap (λ b. in_force site kept (PointOff point) x old || b) (zone_blocked-later site kept (slice_get site.points point) x new old h)

pub by_later : (low high : ℕ) (done : List Done) → low ≤ high → AreBy low done → AreBy high done
by_later low high [] le h = tt
by_later low high (d ∷ ds) le h = (omega (arith, le, h.0), by_later low high ds le h.1)

-- an operation of the kind that was done before x is no later than the latest
pub latest_reaches : (test : Done → Bool) (x : ℕ) (done : List Done) (k : ℕ) (d : Done) → slice_get done k ≡ Some d → test d ≡ true → d.tick < x
    → d.tick ≤ latest_before test x done
latest_reaches test x [] k d is holds before = absurd (cc)
latest_reaches test x (e ∷ rest) zero d is holds before =
    let same : e ≡ d = same_Some e d is in
    let first : latest_before test x (e ∷ rest) ≡ max d.tick (latest_before test x rest) =
    latest-then test x e rest (subst (λ (o : Done). o.tick < x) (sym same) before)
    ∙ ap (λ (o : Done). if test o then max o.tick (latest_before test x rest) else latest_before test x rest) same
    ∙ ap (λ b. if b then max d.tick (latest_before test x rest) else latest_before test x rest) holds in
    omega (arith, first)
latest_reaches test x (e ∷ rest) (suc k) d is holds before =
    let later = latest_reaches test x rest k d is holds before in
    let more = latest_more (test e && nat_lt e.tick x) e.tick (latest_before test x rest) in
    omega (arith, later, more)
  where
    latest_more : (b : Bool) (t n : ℕ) → n ≤ (if b then max t n else n)
    latest_more true t n = omega arith
    latest_more false t n = omega arith

-- the latest one is one that was done
pub record IsLatest (test : Done → Bool) (x : ℕ) (done : List Done) : Type 0 where
  pub place : ℕ
  pub operation : Done
  pub is : slice_get done place ≡ Some operation
  pub holds : test operation ≡ true
  pub before : operation.tick < x
  pub at : latest_before test x done ≡ operation.tick

pub latest_attained : (test : Done → Bool) (x : ℕ) (done : List Done) → 0 < latest_before test x done → IsLatest test x done
latest_attained test x [] some = absurd (omega (arith, some))
latest_attained test x (d ∷ rest) some = by (test d) refl (lt_tells d.tick x) some (latest_attained test x rest)
  where
    rest_of : latest_before test x (d ∷ rest) ≡ latest_before test x rest → IsLatest test x rest → IsLatest test x (d ∷ rest)
    rest_of same l = record { place = suc l.place; operation = l.operation; is = l.is; holds = l.holds; before = l.before; at = same ∙ l.at }

    order : (a b : ℕ) → (a ≤ b) ⊎ (b < a)
    order a b = elim (lt_tells b a) [ inl less ↦ inr less.1 | inr more ↦ inl more.1 ]

    by : (b : Bool) → test d ≡ b → ((nat_lt d.tick x ≡ true) × (d.tick < x)) ⊎ ((nat_lt d.tick x ≡ false) × (x ≤ d.tick))
        → 0 < latest_before test x (d ∷ rest) → (0 < latest_before test x rest → IsLatest test x rest) → IsLatest test x (d ∷ rest)
    by true e (inl before) some ih =
        let first : latest_before test x (d ∷ rest) ≡ max d.tick (latest_before test x rest) =
        latest-then test x d rest before.1 ∙ ap (λ b. if b then max d.tick (latest_before test x rest) else latest_before test x rest) e in
        elim (order (latest_before test x rest) d.tick) [
          | inl le ↦ record { place = zero; operation = d; is = refl; holds = e; before = before.1; at = first ∙ omega (arith, le) }
          | inr more ↦ rest_of (first ∙ omega (arith, more)) (ih (omega (arith, more)))
        ]
    by true e (inr after) some ih =
        let same = latest-yet test x d rest after.1 in
        rest_of same (ih (omega (arith, some, same)))
    by false e (inl before) some ih =
        let same : latest_before test x (d ∷ rest) ≡ latest_before test x rest =
        latest-then test x d rest before.1 ∙ ap (λ b. if b then max d.tick (latest_before test x rest) else latest_before test x rest) e in
        rest_of same (ih (omega (arith, some, same)))
    by false e (inr after) some ih =
        let same = latest-yet test x d rest after.1 in
        rest_of same (ih (omega (arith, some, same)))

same_number : (a b : ℕ) → (a == b) ≡ true → a ≡ b
same_number a b e = grind (arith, nat_tests, e)

itself : (a : ℕ) → (a == a) ≡ true
itself a = grind (arith, nat_tests)

-- the test of settings is their equality
pub same_setting_is : (a b : Setting) → same_setting a b ≡ true → a ≡ b
same_setting_is (PointOff a) (PointOff b) e = ap PointOff (same_number a b e)
same_setting_is (ZoneOff a) (ZoneOff b) e = ap ZoneOff (same_number a b e)
same_setting_is (OutputOff a) (OutputOff b) e = ap OutputOff (same_number a b e)
same_setting_is (InTest a) (InTest b) e = ap InTest (same_number a b e)
same_setting_is (DelaysOff a) (DelaysOff b) e = ap DelaysOff (same_number a b e)
same_setting_is (Counter a) (Counter b) e = ap Counter (same_number a b e)
same_setting_is _ _ e = absurd (cc)

pub same_setting_itself : (a : Setting) → same_setting a a ≡ true
same_setting_itself (PointOff a) = itself a
same_setting_itself (ZoneOff a) = itself a
same_setting_itself (OutputOff a) = itself a
same_setting_itself (InTest a) = itself a
same_setting_itself (DelaysOff a) = itself a
same_setting_itself (Counter a) = itself a
