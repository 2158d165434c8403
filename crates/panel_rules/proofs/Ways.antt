-- Ways round the ring: the panels on them, one step after another, and the links between.
use Rattle.std.proofs.Common.{◌≡◌, ℕ, suc, ◌+◌, ◌-◌, ◌%◌, ◌≤◌, ◌<◌, ◌⊎◌, inl, inr, refl, ◌∙◌, ap, arith}
use Rattle.std.proofs.lemmas.Bool.Decides.{eqb_tells, leb_tells}
use Rattle.std.proofs.Math.Nat.{mod-eq_of_lt, add-mod_left}
use Rattle.panel_rules.specs.Moments.{IsPanel}
use Rattle.panel_rules.specs.Ring.{links_between, link_on}
use Rattle.panel_links.specs.Words.{left_of, right_of}

-- a number below twice a modulus wraps once or not at all
pub data Wraps (x n : ℕ) : Type 0 where
  low : x < n → x % n ≡ x → Wraps x n
  high : n ≤ x → x % n + n ≡ x → x % n < n → Wraps x n

pub wraps : (x n : ℕ) → x < n + n → Wraps x n
wraps x n l = go (x - n) (cases x n)
  where
    cases : (x n : ℕ) → (x < n) ⊎ (x ≡ n + (x - n))
    cases x n = elim (leb_tells n x) [ inl h ↦ inr (omega (arith, h.1)) | inr h ↦ inl h.1 ]

    go : (k : ℕ) → (x < n) ⊎ (x ≡ n + k) → Wraps x n
    go k (inl s) = low s (mod-eq_of_lt s)
    go k (inr e) =
        let small : k < n = omega arith in
        let m : x % n ≡ k = ap (λ y. y % n) e ∙ add-mod_left n k ∙ mod-eq_of_lt small in
        high (omega arith) (omega (arith, m)) (omega (arith, m))

-- the neighbours as the next numbers round the ring
pub right_wraps : (panels panel : ℕ) → IsPanel panels panel → right_of panels panel ≡ panel % panels + 1
right_wraps panels panel p =
    elim (eqb_tells panel panels) [
      | inl t ↦
          rw t.0 (let e =
          t.1 in elim (wraps panel panels (omega (arith, e, p.0, p.1))) [ low l m ↦ absurd (omega (arith, e, l)) | high l m s ↦ omega (arith, m, e) ])
      | inr t ↦
          rw t.0
          (elim (wraps panel panels (omega (arith, p.0, p.1))) [ low l m ↦ omega (arith, m) | high l m s ↦ absurd (t.1 (omega (arith, l, p.1))) ])
    ]

from_two : (panel : ℕ) → 1 ≤ panel → (panel ≡ 1 → ⊥) → 2 ≤ panel
from_two panel one apart = elim (leb_tells 2 panel) [ inl h ↦ h.1 | inr h ↦ absurd (apart (omega (arith, one, h.1))) ]

pub left_wraps : (panels panel : ℕ) → IsPanel panels panel → left_of panels panel ≡ (panel + panels - 2) % panels + 1
left_wraps panels panel p =
    elim (eqb_tells panel 1) [
      | inl t ↦
          rw t.0 (let e =
          t.1 in
          elim (wraps (panel + panels - 2) panels (omega (arith, e, p.0, p.1))) [
            | low l m ↦ omega (arith, m, e, p.1)
            | high l m s ↦
                absurd (omega (arith, e, l, p.1))
          ])
      | inr t ↦
          rw t.0 (let big = from_two panel p.0 t.1 in
          elim (wraps (panel + panels - 2) panels (omega (arith, p.0, p.1))) [
            | low l m ↦ absurd (omega (arith, l, big))
            | high l m s ↦
                omega (arith, m, big)
          ])
    ]

pub left_member : (panels panel : ℕ) → IsPanel panels panel → IsPanel panels (left_of panels panel)
left_member panels panel p =
    elim (eqb_tells panel 1) [
      | inl t ↦ rw t.0 (omega (arith, p.0, p.1), omega arith)
      | inr t ↦ rw t.0 (let big = from_two panel p.0 t.1 in (omega (arith, big), omega (arith, p.1)))
    ]

pub right_member : (panels panel : ℕ) → IsPanel panels panel → IsPanel panels (right_of panels panel)
right_member panels panel p =
    elim (eqb_tells panel panels) [
      | inl t ↦ rw t.0 (omega arith, omega (arith, p.0, p.1))
      | inr t ↦ rw t.0 (let apart = t.1 in (omega arith, omega (arith, p.1, apart)))
    ]

-- the panel so many steps above another one
abbrev pub up_from : ℕ → ℕ → ℕ → ℕ
up_from panels from step = (from + step - 1) % panels + 1

-- and below it
abbrev pub down_from : ℕ → ℕ → ℕ → ℕ
down_from panels from step = (from + panels - step - 1) % panels + 1

-- how many links lie between
pub links_few : (panels from to : ℕ) → IsPanel panels from → IsPanel panels to → links_between panels from to < panels
links_few panels from to f t = elim (wraps (to + panels - from) panels (omega (arith, f.0, t.1))) [ low l e ↦ omega (arith, l, e) | high l e s ↦ s ]

pub up_member : (panels from step : ℕ) → IsPanel panels from → step < panels → IsPanel panels (up_from panels from step)
up_member panels from step f l =
    elim (wraps (from + step - 1) panels (omega (arith, f.1, l))) [
      | low s e ↦ (omega arith, omega (arith, s, e))
      | high s e b ↦ (omega arith, omega (arith, b))
    ]

pub up_begins : (panels from : ℕ) → IsPanel panels from → up_from panels from 0 ≡ from
up_begins panels from f =
    elim (wraps (from + 0 - 1) panels (omega (arith, f.0, f.1))) [
      | low s e ↦ omega (arith, e, f.0)
      | high s e b ↦
          absurd (omega (arith, s, f.0, f.1))
    ]

pub up_ends : (panels from to : ℕ) → IsPanel panels from → IsPanel panels to → up_from panels from (links_between panels from to) ≡ to
up_ends panels from to f t = go (links_between panels from to) (wraps (to + panels - from) panels (omega (arith, f.0, t.1))) refl
  where
    at : (h : ℕ) → (from + h ≡ to + panels) ⊎ (from + h ≡ to) → h < panels → (from + h - 1) % panels + 1 ≡ to
    at h e l =
        elim (wraps (from + h - 1) panels (omega (arith, f.1, l))) [
          | low s m ↦ (elim e [ inl g ↦ absurd (omega (arith, g, s, t.0)) | inr g ↦ omega (arith, g, m, t.0) ])
          | high s m b ↦ (elim e [ inl g ↦ omega (arith, g, m, t.0) | inr g ↦ absurd (omega (arith, g, s, t.1, t.0)) ])
        ]

    go : (h : ℕ) → Wraps (to + panels - from) panels → h ≡ links_between panels from to → (from + h - 1) % panels + 1 ≡ to
    go h (low s e) is = at h (inl (omega (arith, s, e, is, f.1))) (omega (arith, s, e, is))
    go h (high s e b) is = at h (inr (omega (arith, s, e, is, f.1))) (omega (arith, b, is))

pub up_step : (panels from step : ℕ) → IsPanel panels from → suc step < panels
    → left_of panels (up_from panels from (suc step)) ≡ up_from panels from step
up_step panels from step f l =
    left_wraps panels (up_from panels from (suc step)) (up_member panels from (suc step) f l)
    ∙ (elim (wraps (from + suc step - 1) panels (omega (arith, f.1, l))) [
      | low s e ↦ back ((from + suc step - 1) % panels) (omega (arith, s, e)) (inl (omega (arith, e, f.0)))
      | high s e b ↦ back ((from + suc step - 1) % panels) b (inr (omega (arith, e, f.0)))
    ])
  where
    back : (y : ℕ) → y < panels → (y ≡ from + step) ⊎ (y + panels ≡ from + step) → (y + 1 + panels - 2) % panels + 1 ≡ (from + step - 1) % panels + 1
    back y small is =
        elim (wraps (y + 1 + panels - 2) panels (omega (arith, small))) [
          | low s e ↦
              elim (wraps (from + step - 1) panels (omega (arith, f.1, l))) [
                | low t g ↦ elim is [ inl i ↦ absurd (omega (arith, i, s, f.0)) | inr i ↦ omega (arith, i, s, e, t, g, f.0) ]
                | high t g b ↦ elim is [ inl i ↦ absurd (omega (arith, i, s, f.0)) | inr i ↦ omega (arith, i, s, e, g, f.0) ]
              ]
          | high s e b ↦
              elim (wraps (from + step - 1) panels (omega (arith, f.1, l))) [
                | low t g ↦ elim is [ inl i ↦ omega (arith, i, e, g, f.0) | inr i ↦ absurd (omega (arith, i, s, t, small)) ]
                | high t g c ↦ elim is [ inl i ↦ absurd (omega (arith, i, t, small, f.0)) | inr i ↦ omega (arith, i, e, g, f.0) ]
              ]
        ]

pub down_member : (panels from step : ℕ) → IsPanel panels from → step < panels → IsPanel panels (down_from panels from step)
down_member panels from step f l =
    elim (wraps (from + panels - step - 1) panels (omega (arith, f.1, l))) [
      | low s e ↦ (omega arith, omega (arith, s, e))
      | high s e b ↦ (omega arith, omega (arith, b))
    ]

pub down_begins : (panels from : ℕ) → IsPanel panels from → down_from panels from 0 ≡ from
down_begins panels from f =
    elim (wraps (from + panels - 0 - 1) panels (omega (arith, f.0, f.1))) [
      | low s e ↦ absurd (omega (arith, s, f.0))
      | high s e b ↦
          omega (arith, e, f.0)
    ]

pub down_ends : (panels from to : ℕ) → IsPanel panels from → IsPanel panels to → down_from panels from (links_between panels to from) ≡ to
down_ends panels from to f t = go (links_between panels to from) (wraps (from + panels - to) panels (omega (arith, t.0, f.1))) refl
  where
    at : (h : ℕ) → (to + h ≡ from + panels) ⊎ (to + h ≡ from) → h < panels → (from + panels - h - 1) % panels + 1 ≡ to
    at h e l =
        elim (wraps (from + panels - h - 1) panels (omega (arith, f.1, l))) [
          | low s m ↦ (elim e [ inl g ↦ omega (arith, g, m, t.0) | inr g ↦ absurd (omega (arith, g, s, t.0)) ])
          | high s m b ↦ (elim e [ inl g ↦ absurd (omega (arith, g, s, t.1, t.0)) | inr g ↦ omega (arith, g, m, t.0) ])
        ]

    go : (h : ℕ) → Wraps (from + panels - to) panels → h ≡ links_between panels to from → (from + panels - h - 1) % panels + 1 ≡ to
    go h (low s e) is = at h (inl (omega (arith, s, e, is, t.1))) (omega (arith, s, e, is))
    go h (high s e b) is = at h (inr (omega (arith, s, e, is, t.1))) (omega (arith, b, is))

pub down_step : (panels from step : ℕ) → IsPanel panels from → suc step < panels
    → right_of panels (down_from panels from (suc step)) ≡ down_from panels from step
down_step panels from step f l =
    right_wraps panels (down_from panels from (suc step)) (down_member panels from (suc step) f l)
    ∙ (elim (wraps (from + panels - suc step - 1) panels (omega (arith, f.1, l))) [
      | low s e ↦ on ((from + panels - suc step - 1) % panels) (omega (arith, s, e)) (inl (omega (arith, e, l)))
      | high s e b ↦ on ((from + panels - suc step - 1) % panels) b (inr (omega (arith, e, l)))
    ])
  where
    on : (y : ℕ) → y < panels → (y + suc step + 1 ≡ from + panels) ⊎ (y + suc step + 1 ≡ from)
        → (y + 1) % panels + 1 ≡ (from + panels - step - 1) % panels + 1
    on y small is =
        elim (wraps (y + 1) panels (omega (arith, small))) [
          | low s e ↦
              elim (wraps (from + panels - step - 1) panels (omega (arith, f.1, l))) [
                | low t g ↦ elim is [ inl i ↦ omega (arith, i, e, g, l) | inr i ↦ absurd (omega (arith, i, s, t, f.0, l)) ]
                | high t g b ↦ elim is [ inl i ↦ absurd (omega (arith, i, s, t, l)) | inr i ↦ omega (arith, i, e, g, l) ]
              ]
          | high s e b ↦
              elim (wraps (from + panels - step - 1) panels (omega (arith, f.1, l))) [
                | low t g ↦ elim is [ inl i ↦ absurd (omega (arith, i, s, t, small, l)) | inr i ↦ absurd (omega (arith, i, s, small, f.1, l)) ]
                | high t g c ↦ elim is [ inl i ↦ omega (arith, i, s, e, small, g, l) | inr i ↦ absurd (omega (arith, i, s, small, f.1, l)) ]
              ]
        ]

-- on the way down the links are those of the way up from its end, the last one first
pub down_links : (panels from to step : ℕ) → IsPanel panels from → IsPanel panels to → step < links_between panels to from
    → link_on panels to (links_between panels to from - step - 1) ≡ down_from panels from (suc step)
down_links panels from to step f t l = go (links_between panels to from) (wraps (from + panels - to) panels (omega (arith, t.0, f.1))) refl l
  where
    at : (h : ℕ) → (to + h ≡ from + panels) ⊎ (to + h ≡ from) → h < panels → step < h
        → (to + (h - step - 1) - 1) % panels + 1 ≡ (from + panels - suc step - 1) % panels + 1
    at h e small less =
        elim (wraps (to + (h - step - 1) - 1) panels (omega (arith, t.1, small))) [
          | low s m ↦
              elim (wraps (from + panels - suc step - 1) panels (omega (arith, f.1, small, less))) [
                | low u g ↦ elim e [ inl i ↦ omega (arith, i, m, g, less, t.0) | inr i ↦ absurd (omega (arith, i, u, less, t.0)) ]
                | high u g b ↦ elim e [ inl i ↦ absurd (omega (arith, i, s, u, less, t.0)) | inr i ↦ omega (arith, i, m, g, less, t.0) ]
              ]
          | high s m b ↦
              elim (wraps (from + panels - suc step - 1) panels (omega (arith, f.1, small, less))) [
                | low u g ↦ elim e [ inl i ↦ absurd (omega (arith, i, s, u, less, t.0)) | inr i ↦ absurd (omega (arith, i, s, f.1, less, t.0)) ]
                | high u g c ↦ elim e [ inl i ↦ omega (arith, i, m, g, less, t.0) | inr i ↦ absurd (omega (arith, i, s, f.1, less, t.0)) ]
              ]
        ]

    go : (h : ℕ) → Wraps (from + panels - to) panels → h ≡ links_between panels to from → step < h
        → (to + (h - step - 1) - 1) % panels + 1 ≡ (from + panels - suc step - 1) % panels + 1
    go h (low s e) is less = at h (inl (omega (arith, s, e, is, t.1))) (omega (arith, s, e, is)) less
    go h (high s e b) is less = at h (inr (omega (arith, s, e, is, t.1))) (omega (arith, b, is)) less
