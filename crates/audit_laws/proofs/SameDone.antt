-- What operations decide depends only on which were done, where a setting changes at most once in a tick.
use Rattle.std.proofs.Common.{◌≡◌, ◌⊎◌, ℕ, zero, suc, ◌≤◌, ◌<◌, ◌&&◌, Bool, true, false, List, [], ◌∷◌, Some, slice_get, if◌then◌else◌, inl, inr}
use Rattle.std.proofs.Common.{refl, sym, ◌∙◌, ap, subst, arith}
use Rattle.std.specs.Prelude.{max, nat_lt}
use Rattle.std.proofs.lemmas.Bool.{cases_order}
use Rattle.site_types.specs.declared.retained.Retained.{Retained}
use Rattle.site_types.specs.declared.site.Site.{Site}
use Rattle.site_types.specs.Done.{Done, Setting, at_opening, in_force, is_on, latest_before, value_set}
use Rattle.site_types.proofs.Done.{lt_tells}
use Rattle.audit_laws.specs.DoneTold.{IsAmongDone}

-- ---- the latest of a kind

module _ (test : Done → Bool) (x : ℕ) where
  more : (b : Bool) (n tick rest : ℕ) → n ≤ rest → n ≤ (if b then max tick rest else rest)
  more true n tick rest l = omega (arith, l)
  more false n tick rest l = l

  first : (n rest : ℕ) (b : Bool) → b ≡ true → (l : nat_lt n x ≡ true) → n ≤ (if b && nat_lt n x then max n rest else rest)
  first n rest true t l = rw l (omega arith)
  first n rest false t l = cc

  -- each of the kind was done no later
  reached : (done : List Done) (k : ℕ) (d : Done) → slice_get done k ≡ Some d → test d ≡ true → d.tick < x → d.tick ≤ latest_before test x done
  reached [] k d is t l = cc
  reached (e ∷ done) zero d is t l =
      let same : e ≡ d = cc in
      let less : nat_lt e.tick x ≡ true = elim (lt_tells e.tick x) [
        | inl h ↦ h.0
        | inr h ↦ (let past = h.1 in let ticks = ap (λ (y : Done). y.tick) same in absurd (omega (arith, past, ticks, l)))
      ] in
      let here = first e.tick (latest_before test x done) (test e) (ap test same ∙ t) less in
      let ticks = ap (λ (y : Done). y.tick) same in
      omega (arith, here, ticks)
  reached (e ∷ done) (suc k) d is t l =
      more (test e && nat_lt e.tick x) d.tick e.tick (latest_before test x done) (reached done k d is t l)

  -- where all of the kind were done by a tick, so was the latest
  bounded : (done : List Done) (n : ℕ) → ((k : ℕ) (d : Done) → slice_get done k ≡ Some d → test d ≡ true → d.tick < x → d.tick ≤ n)
      → latest_before test x done ≤ n
  bounded [] n each = omega arith
  bounded (e ∷ done) n each = by (test e) refl (lt_tells e.tick x) (bounded done n (λ k d is. each (suc k) d is))
    where
      by : (b : Bool) → test e ≡ b → ((nat_lt e.tick x ≡ true) × (e.tick < x)) ⊎ ((nat_lt e.tick x ≡ false) × (x ≤ e.tick))
          → latest_before test x done ≤ n → (if b && nat_lt e.tick x then max e.tick (latest_before test x done) else latest_before test x done) ≤ n
      by false t h ih = ih
      by true t (inl h) ih = rw h.0 (let m = each 0 e refl t h.1 in omega (arith, ih, m))
      by true t (inr h) ih = rw h.0 ih

  pub latest_alike : (one other : List Done) → ((d : Done) → IsAmongDone d one → IsAmongDone d other) → ((d : Done) → IsAmongDone d other → IsAmongDone d one)
      → latest_before test x one ≡ latest_before test x other
  latest_alike one other to from =
      let up =
      bounded one (latest_before test x other)
      (λ k d is t l. (let g = to d (record { place = k; is = is }) in reached other g.place d g.is t l)) in
      let down =
      bounded other (latest_before test x one)
      (λ k d is t l. (let g = from d (record { place = k; is = is }) in reached one g.place d g.is t l)) in
      omega (arith, up, down)

-- ---- the value of a setting

-- those on a setting stand with the newest first
abbrev pub Fall : Setting → List Done → Type 0
Fall setting all = (i j : ℕ) (d e : Done) → slice_get all i ≡ Some d → slice_get all j ≡ Some e → is_on setting d ≡ true → is_on setting e ≡ true
    → i < j → e.tick ≤ d.tick

-- and no two of them are of one tick
abbrev pub FallApart : Setting → List Done → Type 0
FallApart setting all = (i j : ℕ) (d e : Done) → slice_get all i ≡ Some d → slice_get all j ≡ Some e → is_on setting d ≡ true
    → is_on setting e ≡ true → i < j → e.tick < d.tick

module _ (setting : Setting) (x : ℕ) where
  abbrev NoneBefore : List Done → Type 0
  NoneBefore all = (k : ℕ) (e : Done) → slice_get all k ≡ Some e → is_on setting e ≡ true → e.tick < x → ⊥

  record IsLatest (all : List Done) (d : Done) : Type 0 where
    place : ℕ
    is : slice_get all place ≡ Some d
    on : is_on setting d ≡ true
    before : d.tick < x
    last : (k : ℕ) (e : Done) → slice_get all k ≡ Some e → is_on setting e ≡ true → e.tick < x → e.tick ≤ d.tick

  module _ (site : Site) (kept : Retained) where
    -- a value that is decided by the latest, or the one at opening
    abbrev IsDecided : List Done → Bool → Type 0
    IsDecided all value = (NoneBefore all × (value ≡ at_opening site kept setting))
        ⊎ ((d : Done) × IsLatest all d × (value ≡ value_set d.operation))

    decided : (all : List Done) → Fall setting all → IsDecided all (in_force site kept setting x all)
    decided [] falls = inl ((λ k e is. cc), refl)
    decided (d ∷ all) falls =
        by (is_on setting d) refl (lt_tells d.tick x) (decided all (λ i j a b at at' on on' l. falls (suc i) (suc j) a b at at' on on' (omega (arith, l))))
      where
        passed : (is_on setting d ≡ true → d.tick < x → ⊥) → IsDecided all (in_force site kept setting x all)
            → IsDecided (d ∷ all) (in_force site kept setting x all)
        passed never (inl h) = inl (none, h.1)
          where
            none : NoneBefore (d ∷ all)
            none zero e is on l = let same : d ≡ e = cc in never (ap (is_on setting) same ∙ on) (subst (λ (y : Done). y.tick < x) (sym same) l)
            none (suc k) e is on l = h.0 k e is on l
        passed never (inr h) = inr (h.0, record { place = suc h.1.place; is = h.1.is; on = h.1.on; before = h.1.before; last = last }, h.2)
          where
            last : (k : ℕ) (e : Done) → slice_get (d ∷ all) k ≡ Some e → is_on setting e ≡ true → e.tick < x → e.tick ≤ h.0.tick
            last zero e is on l =
                let same : d ≡ e = cc in
                absurd (never (ap (is_on setting) same ∙ on) (subst (λ (y : Done). y.tick < x) (sym same) l))
            last (suc k) e is on l = h.1.last k e is on l

        newest : is_on setting d ≡ true → d.tick < x → IsLatest (d ∷ all) d
        newest on l = record { place = 0; is = refl; on = on; before = l; last = last }
          where
            last : (k : ℕ) (e : Done) → slice_get (d ∷ all) k ≡ Some e → is_on setting e ≡ true → e.tick < x → e.tick ≤ d.tick
            last zero e is also m = let same : d ≡ e = cc in let ticks = ap (λ (y : Done). y.tick) same in omega (arith, ticks)
            last (suc k) e is also m = falls 0 (suc k) d e refl is on also (omega arith)

        by : (b : Bool) → is_on setting d ≡ b → ((nat_lt d.tick x ≡ true) × (d.tick < x)) ⊎ ((nat_lt d.tick x ≡ false) × (x ≤ d.tick))
            → IsDecided all (in_force site kept setting x all)
            → IsDecided (d ∷ all) (if b && nat_lt d.tick x then value_set d.operation else in_force site kept setting x all)
        by false off h ih = passed (λ on l. (let e = sym off ∙ on in cc)) ih
        by true on (inl h) ih = chosen (nat_lt d.tick x) h.0
          where
            chosen : (c : Bool) → c ≡ true → IsDecided (d ∷ all) (if c then value_set d.operation else in_force site kept setting x all)
            chosen true t = inr (d, newest on h.1, refl)
            chosen false t = cc
        by true on (inr h) ih = chosen (nat_lt d.tick x) h.0
          where
            chosen : (c : Bool) → c ≡ false → IsDecided (d ∷ all) (if c then value_set d.operation else in_force site kept setting x all)
            chosen true t = cc
            chosen false t = passed (λ also l. (let past = h.1 in absurd (omega (arith, past, l)))) ih

  some_same : (d e : Done) → Some d ≡ Some e → d ≡ e
  some_same d e h = cc

  -- two on the setting that were done in one tick are one
  one_of_tick : (all : List Done) → FallApart setting all → (i j : ℕ) (d e : Done) → slice_get all i ≡ Some d → slice_get all j ≡ Some e
      → is_on setting d ≡ true → is_on setting e ≡ true → d.tick ≡ e.tick → d ≡ e
  one_of_tick all apart i j d e is is' on on' same =
      elim (cases_order i j) [
        | inl places ↦ some_same d e (sym is ∙ ap (λ k. slice_get all k) places ∙ is')
        | inr h ↦ elim h [
          | inl g ↦ (let l = apart i j d e is is' on on' g in absurd (omega (arith, l, same)))
          | inr g ↦ (let l = apart j i e d is' is on' on g in absurd (omega (arith, l, same)))
        ]
      ]

  pub in_force_alike : (site : Site) (one_kept other_kept : Retained) (one other : List Done)
      → at_opening site one_kept setting ≡ at_opening site other_kept setting → Fall setting one → FallApart setting other
      → ((d : Done) → IsAmongDone d one → IsAmongDone d other) → ((d : Done) → IsAmongDone d other → IsAmongDone d one)
      → in_force site one_kept setting x one ≡ in_force site other_kept setting x other
  in_force_alike site one_kept other_kept one other opening falls apart to from =
      meet (decided site one_kept one falls)
      (decided site other_kept other (λ i j d e is is' on on' l. (let m = apart i j d e is is' on on' l in omega (arith, m))))
    where
      meet : IsDecided site one_kept one (in_force site one_kept setting x one)
          → IsDecided site other_kept other (in_force site other_kept setting x other)
          → in_force site one_kept setting x one ≡ in_force site other_kept setting x other
      meet (inl a) (inl b) = a.1 ∙ opening ∙ sym b.1
      meet (inl a) (inr b) =
          let g = from b.0 (record { place = b.1.place; is = b.1.is }) in absurd (a.0 g.place b.0 g.is b.1.on b.1.before)
      meet (inr a) (inl b) =
          let g = to a.0 (record { place = a.1.place; is = a.1.is }) in absurd (b.0 g.place a.0 g.is a.1.on a.1.before)
      meet (inr a) (inr b) =
          let g = to a.0 (record { place = a.1.place; is = a.1.is }) in
          let f = from b.0 (record { place = b.1.place; is = b.1.is }) in
          let up = b.1.last g.place a.0 g.is a.1.on a.1.before in
          let down = a.1.last f.place b.0 f.is b.1.on b.1.before in
          let same = one_of_tick other apart g.place b.1.place a.0 b.0 g.is b.1.is a.1.on b.1.on (omega (arith, up, down)) in
          a.2 ∙ ap (λ (d : Done). value_set d.operation) same ∙ sym b.2
