-- What the ring tells of words and links is what befell: which links are up and down, which panels are silent.
use Rattle.std.proofs.Common.{◌≡◌, ℕ, ◌+◌, ◌-◌, ◌≤◌, ◌&&◌, not, List, ◌∷◌, inl, inr, Bool, refl, sym, ◌∙◌, ap, subst, arith}
use Rattle.std.specs.Prelude.{nat_lt}
use Rattle.std.proofs.lemmas.Bool.Decides.{leb_tells}
use Rattle.tick_units.specs.declared.task.Task.TheVariants.{Hold}
use Rattle.site_types.specs.declared.retained.Retained.{Retained}
use Rattle.site_types.specs.declared.site.Site.{Site}
use Rattle.site_types.specs.declared.word.Word.{Word}
use Rattle.site_types.specs.Bits.{mask_of}
use Rattle.site_types.specs.Done.{Done}
use Rattle.site_types.specs.Profile.{silent_of}
use Rattle.site_types.proofs.Done.{lt_false, lt_true}
use Rattle.site_types.proofs.Masks.{mask_same}
use Rattle.panel_conditions.specs.declared.outside.Outside.{Outside}
use Rattle.panel_links.specs.declared.ring.Ring.{Ring}
use Rattle.panel_links.specs.Words.{Call, Took}
use Rattle.panel_links.specs.Kept.{kept_word}
use Rattle.panel_links.specs.Stands.{StandsFor as RingStandsFor, is_down_at, is_link_of, is_silent}
use Rattle.panel_rules.specs.Moments.{Moment, latest_turn, IsPanel}
use Rattle.panel_rules.specs.States.{is_up}
use Rattle.panel_rules.specs.Kept.{heard, kept_at, made_at}
use Rattle.panel_rules.specs.Words.{latest_word, ring_calls}
use Rattle.panel_rules.specs.Faults.{links_down, silent_panels}
use Rattle.panel_rules.proofs.KeptWords.{made_tick}
use Rattle.panel_rules.proofs.RingWords.{kept_by_ring, stamp_is, up_same}

-- a turn of Link at a tick, with a word
pub took_same : (panels panel : ℕ) (calls : List Call) (ring : Ring) (t u : ℕ) (w v : Word) → t ≡ u → w ≡ v
    → RingStandsFor panels (Took t panel w ∷ calls) ring → RingStandsFor panels (Took u panel v ∷ calls) ring
took_same panels panel calls ring t u w v e f h =
    subst (λ x. RingStandsFor panels (Took x panel v ∷ calls) ring) e (subst (λ x. RingStandsFor panels (Took t panel x ∷ calls) ring) f h)

module _ (site : Site) (kept : Retained) (done : List Done) (told : ℕ → List Moment → Bool) where
  -- the latest word was made at the latest turn of Hold
  pub latest_stamp : (panel : ℕ) (m : List Moment) → (latest_word site kept done told panel m).stamp.0 ≡ latest_turn panel Hold m
  latest_stamp panel m = stamp_is site kept done told panel (made_at panel m) ∙ made_tick panel m

  module _ (few : site.panels ≤ 8) (panel : ℕ) (p : IsPanel site.panels panel) (m : List Moment) where
    -- the stamp that is heard is that of the word kept
    heard_is : (source : ℕ) → IsPanel site.panels source
        → (kept_word site.panels source panel (ring_calls site kept done told m)).stamp.0 ≡ heard site.panels panel source m
    heard_is source s =
        ap (λ (w : Word). w.stamp.0) (kept_by_ring site kept done told m panel source few p s) ∙ stamp_is site kept done told source (kept_at site.panels panel source m)

    later : (limit now stamp : ℕ) → nat_lt limit (now - stamp) ≡ nat_lt (stamp + limit) now
    later limit now stamp =
        elim (leb_tells (stamp + limit + 1) now) [
          | inl t ↦ (let l = t.1 in lt_true limit (now - stamp) (omega (arith, l)) ∙ sym (lt_true (stamp + limit) now (omega (arith, l))))
          | inr t ↦ (let l = t.1 in lt_false limit (now - stamp) (omega (arith, l)) ∙ sym (lt_false (stamp + limit) now (omega (arith, l))))
        ]

    silent_at : (now limit k : ℕ) → is_silent site.panels panel (ring_calls site kept done told m) now limit (k + 1)
        ≡ (nat_lt k site.panels && nat_lt (heard site.panels panel (k + 1) m + limit) now)
    silent_at now limit k =
        elim (leb_tells (k + 1) site.panels) [
          | inl t ↦
              (let l = t.1 in
              ap (λ b. b && nat_lt limit (now - (kept_word site.panels (k + 1) panel (ring_calls site kept done told m)).stamp.0))
              (t.0 ∙ sym (lt_true k site.panels (omega (arith, l))))
              ∙ ap (λ s. nat_lt k site.panels && nat_lt limit (now - s)) (heard_is (k + 1) (omega arith, l))
              ∙ ap (λ b. nat_lt k site.panels && b) (later limit now (heard site.panels panel (k + 1) m)))
          | inr t ↦
              (let l = t.1 in
              ap (λ b. b && nat_lt limit (now - (kept_word site.panels (k + 1) panel (ring_calls site kept done told m)).stamp.0)) t.0
              ∙ sym (ap (λ b. b && nat_lt (heard site.panels panel (k + 1) m + limit) now) (lt_false k site.panels (omega (arith, l)))))
        ]

    -- the panels that are silent
    pub silent_same : (now : ℕ) → mask_of 8 (λ k. is_silent site.panels panel (ring_calls site kept done told m) now (silent_of site.format) (k + 1))
        ≡ silent_panels site (λ source. heard site.panels panel source m) now
    silent_same now =
        mask_same 8 (λ k. is_silent site.panels panel (ring_calls site kept done told m) now (silent_of site.format) (k + 1))
        (λ k. nat_lt k site.panels && nat_lt (heard site.panels panel (k + 1) m + silent_of site.format) now)
        (λ k small. silent_at now (silent_of site.format) k)

    -- the links that are down
    pub down_same : mask_of 8 (λ k. is_down_at site.panels panel (ring_calls site kept done told m) (k + 1))
        ≡ links_down site panel (λ link. is_up link m)
    down_same =
        mask_same 8 (λ k. is_down_at site.panels panel (ring_calls site kept done told m) (k + 1)) (λ k. is_link_of site.panels panel (k + 1)
        && not (is_up (k + 1) m))
        (λ k small. ap (λ b. is_link_of site.panels panel (k + 1) && not b) (up_same site kept done told (k + 1) m))

-- what stands besides missing points, part by part
pub outside_same : (supply broken shorted silent links unconfirmed a b c d e : ℕ) → supply ≡ a → broken ≡ b → shorted ≡ c → silent ≡ d → links ≡ e
    → (let one : Outside = record {
      supply = supply;
      broken = broken;
      shorted = shorted;
      silent = silent;
      links = links;
      unconfirmed =
          unconfirmed;
    } in
    let other : Outside = record { supply = a; broken = b; shorted = c; silent = d; links = e; unconfirmed = unconfirmed } in one ≡ other)
outside_same supply broken shorted silent links unconfirmed a b c d e f g h i j = rw (f, g, h, i, j) refl
