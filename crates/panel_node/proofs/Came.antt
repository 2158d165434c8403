-- A frame that came: who sent it, and what it makes of a panel.
use Rattle.std.proofs.Common.{◌≡◌, ◌≤◌, ◌==◌, ◌&&◌, ◌||◌, ℕ, Bool, true, false, List, ◌∷◌, nat_le, nat_lt, if◌then◌else◌, inl, inr, refl, subst, arith}
use Rattle.std.proofs.lemmas.Bool.{eqb-true}
use Rattle.std.proofs.lemmas.Bool.Decides.{eqb_tells}
use Rattle.site_types.specs.declared.retained.Retained.{Retained}
use Rattle.site_types.specs.declared.site.Site.{Site}
use Rattle.site_types.specs.Valid.{IsValid}
use Rattle.kept_words.specs.declared.kept_words.KeptWords.{KeptWords}
use Rattle.kept_words.specs.Arrivals.{Came, Made}
use Rattle.kept_words.specs.Stands.{KeepsArrived}
use Rattle.node_rules.specs.Histories.{FrameCame, NodeMoment, befallen, frames_in}
use Rattle.panel_frames.specs.Grammar.{IsFrame}
use Rattle.panel_links.specs.declared.frame.Frame.{Frame}
use Rattle.panel_links.specs.Words.{left_of, right_of}
use Rattle.panel_parts.specs.Applied.{applied}
use Rattle.panel_parts.proofs.Operations.{stands_alike}
use Rattle.panel_rules.specs.Moments.{IsPanel, tick_of}
use Rattle.panel_node.specs.declared.node.Node.{Node}
use Rattle.panel_node.specs.Stands.{NodeStandsFor}
use Rattle.panel_node.specs.Told.{arrived, word_of_itself, told_by_frames}
use Rattle.panel_node.proofs.Histories.{agree_frame, own_frame}
use Rattle.panel_node.proofs.KeptWords.{came_before}

module _ (site : Site) (panel : ℕ) (frame : Frame) where
  pub frame_group : IsFrame site panel frame → frame.group ≤ 1
  frame_group framed = (let least = few (nat_le site.panels 4) in let group = framed.group in omega (arith, least, group))
    where
      few : (b : Bool) → (if b then 0 else 1) ≤ 1
      few true = omega arith
      few false = omega arith

  left_is : (few : site.panels ≤ 8) (p : IsPanel site.panels panel) → (1 ≤ left_of site.panels panel) × (left_of site.panels panel ≤ 8)
  left_is few p = elim (eqb_tells panel 1) [
    | inl t ↦ rw t.0 (omega (arith, few, p.0, p.1), few)
    | inr t ↦ rw t.0 (let apart = t.1 in (omega (arith, p.0, apart), omega (arith, few, p.1)))
  ]

  right_is : (few : site.panels ≤ 8) (p : IsPanel site.panels panel) → (1 ≤ right_of site.panels panel) × (right_of site.panels panel ≤ 8)
  right_is few p = elim (eqb_tells panel site.panels) [
    | inl t ↦ rw t.0 (omega arith, omega arith)
    | inr t ↦ rw t.0 (let apart = t.1 in (omega arith, omega (arith, few, p.1, apart)))
  ]

  pub frame_sender : IsValid site → IsPanel site.panels panel → IsFrame site panel frame → (1 ≤ frame.from) × (frame.from ≤ 8)
  frame_sender valid p framed = go (frame.from == left_of site.panels panel) (frame.from == right_of site.panels panel) refl refl (both (nat_lt 1 site.panels) _ framed.neighbour)
    where
      both : (a b : Bool) → (a && b) ≡ true → b ≡ true
      both true b e = e
      both false b e = absurd (let no_way : false ≡ true = e in cc)

      go : (a b : Bool) → (frame.from == left_of site.panels panel) ≡ a → (frame.from == right_of site.panels panel) ≡ b → (a || b) ≡ true
          → (1 ≤ frame.from) × (frame.from ≤ 8)
      go true b left right e =
          (let is = eqb-true frame.from (left_of site.panels panel) left in let there = left_is valid.forms.panels.1 p in
          (omega (arith, is, there.0), omega (arith, is, there.1)))
      go false true left right e =
          (let is = eqb-true frame.from (right_of site.panels panel) right in let there = right_is valid.forms.panels.1 p in
          (omega (arith, is, there.0), omega (arith, is, there.1)))
      go false false left right e = absurd (let no_way : false ≡ true = e in cc)

-- a panel after a frame came
pub stands_framed : (site : Site) (panel : ℕ) (kept : Retained) (history : List NodeMoment) (node : Node) (frame : Frame)
    → NodeStandsFor site panel kept history node → IsFrame site panel frame → (words : KeptWords)
    → KeepsArrived site.panels panel (Came node.tick.0 frame ∷ arrived site kept (applied site kept (befallen history)) panel history) words
    → NodeStandsFor site panel kept (FrameCame frame ∷ history) (record node { words = words })
stands_framed site panel kept history node frame h framed words keeps =
    let done = applied site kept (befallen history) in
    let own = word_of_itself site kept done panel history (befallen history) in
    record {
      valid = h.valid;
      same = h.same;
      own = h.own;
      plan = h.plan;
      tick = h.tick;
      parts =
          stands_alike site kept done (told_by_frames site kept done panel history) (told_by_frames site kept done panel (FrameCame frame ∷ history)) panel
          (befallen history) node.parts (agree_frame site kept done panel frame history) h.parts;
      words =
          subst (λ w. KeepsArrived site.panels panel (Made w ∷ Came (tick_of (befallen history)) frame ∷ frames_in history) words)
          (own_frame site kept done panel frame history)
          (came_before site.panels panel words (frames_in history) (tick_of (befallen history)) frame own
          (subst (λ t. KeepsArrived site.panels panel (Came t frame ∷ arrived site kept done panel history) words) h.tick keeps));
      events = h.events;
      own_events = h.own_events;
      frames = (framed, h.frames);
      desk = h.desk;
      settings = h.settings;
      sized = h.sized;
      things = h.things;
      counts = h.counts;
    }
