-- A panel to which one link on each way round is down is heard no more.
use Rattle.std.proofs.Common.{◌≡◌, ℕ, zero, suc, ◌+◌, ◌-◌, ◌%◌, ◌≤◌, ◌<◌, ◌==◌, ◌&&◌, List, [], ◌∷◌, ◌⊎◌, inl, inr, Bool, true, false, if◌then◌else◌, refl, sym, ◌∙◌, ap, subst, arith}
use Rattle.std.specs.Prelude.{nat_lt}
use Rattle.std.proofs.lemmas.Bool.Decides.{eqb_tells, leb_tells}
use Rattle.tick_units.specs.declared.task.Task.TheVariants.{Hold, Link}
use Rattle.site_types.specs.Profile.{silent_of, fault_of}
use Rattle.site_types.proofs.Masks.{has_bit-mask}
use Rattle.panel_rules.specs.Moments.{Moment, Began, Happened, Turned, Kept, tick_of, IsPanel, IsRun, IsPast, present, later, up_to}
use Rattle.panel_rules.specs.States.{is_up}
use Rattle.panel_rules.specs.Ring.{links_between, link_on}
use Rattle.panel_links.specs.Words.{carries, left_of, right_of}
use Rattle.panel_rules.specs.Kept.{made_at, taken_over, kept_at, heard}
use Rattle.panel_laws.specs.OtherDeadlines.{CutOffIsSilent}
use Rattle.panel_rules.proofs.Bools.{both}
use Rattle.panel_rules.proofs.Floors.{lt_to}
use Rattle.panel_rules.proofs.Turns.{past_on, tick_rises}
use Rattle.panel_rules.proofs.Stays.{state_stays}
use Rattle.panel_rules.proofs.Heard.{link_by_events}
use Rattle.panel_rules.proofs.KeptWords.{made_is, heard_past, latest_by}
use Rattle.panel_rules.proofs.Ways.{low, high, wraps, right_wraps, up_from, up_member, up_ends, up_step}
use Rattle.panel_laws.proofs.OwnTick.{made_now}

-- what is taken is one of the two, and nothing where the link is down
taken_at_most : (up carried : Bool) (one other : List Moment) (n : ℕ) → tick_of one ≤ n → (up ≡ true → tick_of other ≤ n)
    → tick_of (taken_over up carried one other) ≤ n
taken_at_most true true one other n l k =
    elim (nat_lt (tick_of one) (tick_of other)) as (λ b. tick_of (if b then other else one) ≤ n) [ true ↦ k refl | false ↦ l ]
taken_at_most true false one other n l k = l
taken_at_most false carried one other n l k = l

-- ---- the panels beyond the cuts

-- one step further up
above_step : (panels from step : ℕ) → IsPanel panels from → suc step < panels
    → right_of panels (up_from panels from step) ≡ up_from panels from (suc step)
above_step panels from step f l =
    right_wraps panels (up_from panels from step) (up_member panels from step f (omega (arith, l)))
    ∙ (elim (wraps (from + step - 1) panels (omega (arith, f.1, l))) [
      | low s e ↦ again ((from + step - 1) % panels) (omega (arith, s, e)) (inl (omega (arith, e, f.0)))
      | high s e b ↦ again ((from + step - 1) % panels) b (inr (omega (arith, e, f.0)))
    ])
  where
    again : (y : ℕ) → y < panels → (y + 1 ≡ from + step) ⊎ (y + panels + 1 ≡ from + step) → (y + 1) % panels + 1 ≡ (from + suc step - 1) % panels + 1
    again y small is =
        elim (wraps (y + 1) panels (omega (arith, small, l))) [
          | low s e ↦
              elim (wraps (from + suc step - 1) panels (omega (arith, f.1, l))) [
                | low t g ↦ elim is [ inl i ↦ omega (arith, i, e, g) | inr i ↦ absurd (omega (arith, i, s, t)) ]
                | high t g b ↦ elim is [ inl i ↦ absurd (omega (arith, i, s, t)) | inr i ↦ omega (arith, i, e, g) ]
              ]
          | high s e b ↦
              elim (wraps (from + suc step - 1) panels (omega (arith, f.1, l))) [
                | low t g ↦ elim is [ inl i ↦ absurd (omega (arith, i, s, t)) | inr i ↦ absurd (omega (arith, i, s, t, small, l, f.1)) ]
                | high t g c ↦ elim is [ inl i ↦ omega (arith, i, e, g) | inr i ↦ absurd (omega (arith, i, s, small, l, f.1)) ]
              ]
        ]

-- a panel some steps up is another one
not_itself : (panels from step : ℕ) → IsPanel panels from → 1 ≤ step → step < panels → up_from panels from step ≡ from → ⊥
not_itself panels from step f one l e =
    elim (wraps (from + step - 1) panels (omega (arith, f.1, l))) [
      | low s g ↦ omega (arith, g, e, one, f.0)
      | high s g b ↦
          omega (arith, g, e, l, f.0)
    ]

-- steps from a panel that is some steps up
steps_add : (panels from step more : ℕ) → IsPanel panels from → step + more < panels
    → link_on panels (up_from panels from step) more ≡ up_from panels from (step + more)
steps_add panels from step more f l =
    elim (wraps (from + step - 1) panels (omega (arith, f.1, l))) [
      | low s e ↦ again ((from + step - 1) % panels) (omega (arith, s, e)) (inl (omega (arith, e, f.0)))
      | high s e b ↦ again ((from + step - 1) % panels) b (inr (omega (arith, e, f.0)))
    ]
  where
    again : (y : ℕ) → y < panels → (y + 1 ≡ from + step) ⊎ (y + panels + 1 ≡ from + step)
        → (y + 1 + more - 1) % panels + 1 ≡ (from + (step + more) - 1) % panels + 1
    again y small is =
        elim (wraps (y + 1 + more - 1) panels (omega (arith, small, l))) [
          | low s e ↦
              elim (wraps (from + (step + more) - 1) panels (omega (arith, f.1, l))) [
                | low t g ↦ elim is [ inl i ↦ omega (arith, i, e, g) | inr i ↦ absurd (omega (arith, i, s, t)) ]
                | high t g b ↦ elim is [ inl i ↦ absurd (omega (arith, i, s, t)) | inr i ↦ omega (arith, i, e, g) ]
              ]
          | high s e b ↦
              elim (wraps (from + (step + more) - 1) panels (omega (arith, f.1, l))) [
                | low t g ↦ elim is [ inl i ↦ absurd (omega (arith, i, s, t)) | inr i ↦ absurd (omega (arith, i, s, t)) ]
                | high t g c ↦ elim is [ inl i ↦ omega (arith, i, e, g) | inr i ↦ absurd (omega (arith, i, s, l, f.1)) ]
              ]
        ]

-- the two ways between two panels make the ring
ways_add : (panels one other : ℕ) → IsPanel panels one → IsPanel panels other → (one ≡ other → ⊥)
    → links_between panels one other + links_between panels other one ≡ panels
ways_add panels one other p q apart =
    elim (wraps (other + panels - one) panels (omega (arith, p.0, p.1, q.1))) [
      | low s e ↦
          elim (wraps (one + panels - other) panels (omega (arith, q.0, q.1, p.1))) [
            | low t g ↦ absurd (omega (arith, s, t, p.1, q.1))
            | high t g b ↦ omega (arith, e, g, s, t, p.1, q.1)
          ]
      | high s e b ↦
          elim (wraps (one + panels - other) panels (omega (arith, q.0, q.1, p.1))) [
            | low t g ↦ omega (arith, e, g, s, t, p.1, q.1)
            | high t g c ↦ absurd (apart (omega (arith, s, t, p.1, q.1)))
          ]
    ]

module _ (panels source : ℕ) (s : IsPanel panels source) (whole : List Moment) (run : IsRun panels whole) (one last first : ℕ) (begins : 1 ≤ first)
    (some : one < last) (few : last < panels)
    (one_down : (tick : ℕ) → first ≤ tick → tick ≤ tick_of whole → is_up (up_from panels source one) (up_to tick whole) ≡ false)
    (last_down : (tick : ℕ) → first ≤ tick → tick ≤ tick_of whole → is_up (up_from panels source last) (up_to tick whole) ≡ false) where
  -- at a turn of Link a link is as it is in that tick
  link_then : (link panel : ℕ) (before : List Moment) → IsPast (Turned panel Link ∷ before) whole
      → is_up link before ≡ is_up link (up_to (tick_of before) whole)
  link_then link panel before past =
      sym (state_stays (λ b. is_up link b) panels (Turned panel Link ∷ before) whole (link_by_events link) past run refl)

  no_link : (link panel : ℕ) (before : List Moment) → IsPast (Turned panel Link ∷ before) whole → first ≤ tick_of before
      → ((tick : ℕ) → first ≤ tick → tick ≤ tick_of whole → is_up link (up_to tick whole) ≡ false) → is_up link before ≡ true → ⊥
  no_link link panel before past l down up =
      let r = tick_rises (Turned panel Link ∷ before) whole past in
      let e = sym (link_then link panel before past ∙ down (tick_of before) l (omega (arith, r))) ∙ up in
      cc

  -- a turn of Link of a panel beyond them
  turn : (who step : ℕ) (before : List Moment) → who ≡ up_from panels source step → IsPast (Turned who Link ∷ before) whole → one < step → step ≤ last
      → ((k : ℕ) → one < k → k ≤ last → heard panels (up_from panels source k) source before + 1 ≤ first)
      → tick_of (taken_over (is_up (up_from panels source step) before) (carries panels (tick_of before) source)
      (taken_over (is_up (left_of panels (up_from panels source step)) before) (carries panels (tick_of before) source)
      (if up_from panels source step == source then made_at (up_from panels source step) before else kept_at panels (up_from panels source step)
      source before) (kept_at panels (left_of panels (up_from panels source step)) source before))
      (kept_at panels (right_of panels (up_from panels source step)) source before)) + 1 ≤ first
  turn who step before is past a b ih =
      elim (leb_tells first (tick_of before)) [
        | inl h ↦ late h.1
        | inr h ↦ (let l = h.1 in early l)
      ]
    where
      past' : IsPast (Turned (up_from panels source step) Link ∷ before) whole
      past' = subst (λ q. IsPast (Turned q Link ∷ before) whole) is past

      own : (if up_from panels source step == source then made_at (up_from panels source step) before else kept_at panels (up_from panels source step) source before) ≡ kept_at panels (up_from panels source step) source before
      own =
          elim (eqb_tells (up_from panels source step) source) [
            | inl t ↦ absurd (not_itself panels source step s (omega (arith, a)) (omega (arith, b, few)) t.1)
            | inr t ↦ rw t.0 refl
          ]

      any : (panel : ℕ) → heard panels panel source before ≤ tick_of before
      any panel = let h = heard_past panels panel source before in let l = latest_by source Hold before in omega (arith, h, l)

      mine :
          tick_of (if up_from panels source step == source then made_at (up_from panels source step) before else kept_at panels
          (up_from panels source step) source before) + 1 ≤ first
      mine = let e = ap (λ w. tick_of w) own in let h = ih step a b in omega (arith, e, h)

      early : tick_of before < first
          → tick_of (taken_over (is_up (up_from panels source step) before) (carries panels (tick_of before) source)
          (taken_over (is_up (left_of panels (up_from panels source step)) before) (carries panels (tick_of before) source)
          (if up_from panels source step == source then made_at (up_from panels source step) before else kept_at panels (up_from panels source step)
          source before) (kept_at panels (left_of panels (up_from panels source step)) source before))
          (kept_at panels (right_of panels (up_from panels source step)) source before)) + 1 ≤ first
      early l =
          let down = any (left_of panels (up_from panels source step)) in
          let up = any (right_of panels (up_from panels source step)) in
          let e = ap (λ w. tick_of w) own in
          let self = any (up_from panels source step) in
          let inner =
          taken_at_most (is_up (left_of panels (up_from panels source step)) before) (carries panels (tick_of before) source)
          (if up_from panels source step == source then made_at (up_from panels source step) before else kept_at panels
          (up_from panels source step) source before) (kept_at panels (left_of panels (up_from panels source step)) source before)
          (tick_of before) (omega (arith, e, self)) (λ u. down) in
          let outer =
          taken_at_most (is_up (up_from panels source step) before) (carries panels (tick_of before) source)
          (taken_over (is_up (left_of panels (up_from panels source step)) before) (carries panels (tick_of before) source)
          (if up_from panels source step == source then made_at (up_from panels source step) before else kept_at panels
          (up_from panels source step) source before) (kept_at panels (left_of panels (up_from panels source step)) source before))
          (kept_at panels (right_of panels (up_from panels source step)) source before) (tick_of before) inner (λ u. up) in
          omega (arith, outer, l)

      -- what the panel below has comes only over a link that is up, and then it is beyond the first cut too
      from_below : first ≤ tick_of before → is_up (left_of panels (up_from panels source step)) before ≡ true
          → heard panels (left_of panels (up_from panels source step)) source before + 1 ≤ first
      from_below l up = go step a b refl up
        where
          go : (k : ℕ) → one < k → k ≤ last → k ≡ step → is_up (left_of panels (up_from panels source step)) before ≡ true
              → heard panels (left_of panels (up_from panels source step)) source before + 1 ≤ first
          go zero c d e u = absurd (omega (arith, c))
          go (suc k) c d e u =
              let down : left_of panels (up_from panels source step) ≡ up_from panels source k =
              ap (λ x. left_of panels (up_from panels source x)) (sym e) ∙ up_step panels source k s (omega (arith, d, few)) in
              elim (eqb_tells k one) [
                | inl t ↦
                    absurd (no_link (up_from panels source one) (up_from panels source step) before past' l one_down
                    (ap (λ x. is_up (up_from panels source x) before) (sym t.1) ∙ ap (λ x. is_up x before) (sym down) ∙ u))
                | inr t ↦ subst (λ q. heard panels q source before + 1 ≤ first) (sym down) (ih k (apart k t.1 c) (omega (arith, d)))
              ]
            where
              apart : (k : ℕ) → (k ≡ one → ⊥) → one < suc k → one < k
              apart k n c = elim (leb_tells k one) [ inl h ↦ (let m = h.1 in absurd (n (omega (arith, m, c)))) | inr h ↦ h.1 ]

      -- the same of the panel above and the last cut
      from_above : first ≤ tick_of before → is_up (up_from panels source step) before ≡ true
          → heard panels (right_of panels (up_from panels source step)) source before + 1 ≤ first
      from_above l up =
          elim (eqb_tells step last) [
            | inl t ↦
                absurd (no_link (up_from panels source last) (up_from panels source step) before past' l last_down
                (ap (λ x. is_up (up_from panels source x) before) (sym t.1) ∙ up))
            | inr t ↦
                (let next : suc step ≤ last = apart t.1 b in
                subst (λ q. heard panels q source before + 1 ≤ first) (sym (above_step panels source step s (omega (arith, next, few))))
                (ih (suc step) (omega (arith, a)) next))
          ]
        where
          apart : (step ≡ last → ⊥) → step ≤ last → suc step ≤ last
          apart n c =
              elim (leb_tells last step) [ inl h ↦ (let m = h.1 in absurd (n (omega (arith, m, c)))) | inr h ↦ (let m = h.1 in omega (arith, m)) ]

      late : first ≤ tick_of before
          → tick_of (taken_over (is_up (up_from panels source step) before) (carries panels (tick_of before) source)
          (taken_over (is_up (left_of panels (up_from panels source step)) before) (carries panels (tick_of before) source)
          (if up_from panels source step == source then made_at (up_from panels source step) before else kept_at panels (up_from panels source step)
          source before) (kept_at panels (left_of panels (up_from panels source step)) source before))
          (kept_at panels (right_of panels (up_from panels source step)) source before)) + 1 ≤ first
      late l =
          let inner =
          taken_at_most (is_up (left_of panels (up_from panels source step)) before) (carries panels (tick_of before) source)
          (if up_from panels source step == source then made_at (up_from panels source step) before else kept_at panels
          (up_from panels source step) source before) (kept_at panels (left_of panels (up_from panels source step)) source before) (first - 1)
          (let h = mine in omega (arith, h)) (λ u. (let h = from_below l u in omega (arith, h))) in
          let outer =
          taken_at_most (is_up (up_from panels source step) before) (carries panels (tick_of before) source)
          (taken_over (is_up (left_of panels (up_from panels source step)) before) (carries panels (tick_of before) source)
          (if up_from panels source step == source then made_at (up_from panels source step) before else kept_at panels
          (up_from panels source step) source before) (kept_at panels (left_of panels (up_from panels source step)) source before))
          (kept_at panels (right_of panels (up_from panels source step)) source before) (first - 1) inner
          (λ u. (let h = from_above l u in omega (arith, h))) in
          omega (arith, outer, begins)

  -- beyond the two links nothing newer is heard
  cut : (m : List Moment) → IsPast m whole → (step : ℕ) → one < step → step ≤ last → heard panels (up_from panels source step) source m + 1 ≤ first
  cut [] past step a b = omega (arith, begins)
  cut (Began ∷ before) past step a b = cut before (past_on before (Began ∷ before) whole (later Began before present) past) step a b
  cut (Happened event ∷ before) past step a b =
      cut before (past_on before (Happened event ∷ before) whole (later (Happened event) before present) past) step a b
  cut (Turned who Link ∷ before) past step a b =
      let tail = past_on before (Turned who Link ∷ before) whole (later (Turned who Link) before present) past in
      elim (eqb_tells who (up_from panels source step)) [
        | inl t ↦ rw t.0 (turn who step before t.1 past a b (λ k c d. cut before tail k c d))
        | inr t ↦ rw t.0 (cut before tail step a b)
      ]
  cut (Turned who task ∷ before) past step a b =
      cut before (past_on before (Turned who task ∷ before) whole (later (Turned who task) before present) past) step a b
  cut (Kept failed ∷ before) past step a b =
      cut before (past_on before (Kept failed ∷ before) whole (later (Kept failed) before present) past) step a b

pub cut_off_silent : CutOffIsSilent
cut_off_silent site kept done stored m panel other start after p q cut_off =
    has_bit-mask 8 (λ k. nat_lt k site.panels && nat_lt (heard site.panels panel (k + 1) (made_at panel m) + silent_of site.format)
    (tick_of (made_at panel m))) (other - 1) (omega (arith, q.0, q.1, eight))
    ∙ both (nat_lt (other - 1) site.panels) (nat_lt (heard site.panels panel (other - 1 + 1) (made_at panel m) + silent_of site.format)
    (tick_of (made_at panel m))) (lt_to (other - 1) site.panels (omega (arith, q.0, q.1)))
    (lt_to (heard site.panels panel (other - 1 + 1) (made_at panel m) + silent_of site.format) (tick_of (made_at panel m))
    (omega (arith, here, now, long, f, quiet)))
  where
    eight : site.panels ≤ 8
    eight = after.valid.forms.panels.1

    f : 1 ≤ site.format
    f = after.valid.forms.format.0

    long : start + fault_of site.format ≤ tick_of m
    long = cut_off.long

    now : tick_of (made_at panel m) ≡ tick_of m
    now = made_now site m after panel p

    here : heard site.panels panel (other - 1 + 1) (made_at panel m) ≡ heard site.panels panel other (made_at panel m)
    here = ap (λ k. heard site.panels panel k (made_at panel m)) (omega (arith, q.0))

    apart : other ≡ panel → ⊥
    apart e = let z = none panel p in let l = subst (λ x. cut_off.one < links_between site.panels x panel) e cut_off.one_on in omega (arith, z, l)
      where
        none : (panel : ℕ) → IsPanel site.panels panel → links_between site.panels panel panel ≡ 0
        none panel p =
            elim (wraps (panel + site.panels - panel) site.panels (omega (arith, p.0, p.1))) [
              | low s e ↦ absurd (omega (arith, s))
              | high s e b ↦
                  omega (arith, e)
            ]

    ways : links_between site.panels other panel + links_between site.panels panel other ≡ site.panels
    ways = ways_add site.panels other panel q p apart

    there : up_from site.panels other (links_between site.panels other panel) ≡ panel
    there = up_ends site.panels other panel q p

    second : link_on site.panels panel cut_off.two ≡ up_from site.panels other (links_between site.panels other panel + cut_off.two)
    second = ap (λ x. link_on site.panels x cut_off.two) (sym there) ∙ steps_add site.panels other (links_between site.panels other panel) cut_off.two
        q (let w = ways in let t = cut_off.two_on in omega (arith, w, t))

    quiet : heard site.panels panel other (made_at panel m) + 1 ≤ start
    quiet =
        subst (λ x. heard site.panels x other (made_at panel m) + 1 ≤ start) there
        (cut site.panels other q m after.run cut_off.one (links_between site.panels other panel + cut_off.two) start cut_off.begins (let o =
        cut_off.one_on in omega (arith, o)) (let w = ways in let t = cut_off.two_on in omega (arith, w, t)) cut_off.one_down
        (λ tick a b. ap (λ k. is_up k (up_to tick m)) (sym second) ∙ cut_off.two_down tick a b) (made_at panel m) (made_is panel m).past
        (links_between site.panels other panel) cut_off.one_on (omega arith))
