-- What bytes are that came as a block.
use Rattle.std.proofs.Common.{◌≡◌, ◌≤◌, ◌==◌, ℕ, Bool, true, false, List, [], ◌∷◌, length, Result, Ok, Err, if◌then◌else◌, nat_lt, refl, ap, ◌∙◌}
use Rattle.std.proofs.lemmas.Bool.{ltb-false}
use Rattle.desk_ticks.specs.Blocks.{most_block_bytes}
use Rattle.desk_ticks.specs.declared.block_refusal.BlockRefusal.{BlockRefusal}
use Rattle.node_inputs.specs.Inputs.{as_block, as_frame, what_came}
use Rattle.node_inputs.specs.OwnBlocks.{own_verdict_of}
use Rattle.node_inputs.specs.declared.input.NodeInput.{NodeInput}
use Rattle.node_inputs.specs.declared.input.NodeInput.TheVariants.{Block, TooLong}
use Rattle.panel_frames.specs.Refusals.{frame_read}
use Rattle.panel_frames.specs.declared.frame_refusal.FrameRefusal.{FrameRefusal}
use Rattle.panel_links.specs.declared.frame.Frame.{Frame}
use Rattle.site_types.specs.declared.site.Site.{Site}

no_block : (read : Result Frame FrameRefusal) (tick : ℕ) → as_frame read ≡ Block tick → ⊥
no_block (Ok frame) tick e = cc
no_block (Err refusal) tick e = cc

accepted : (verdict : Result ℕ BlockRefusal) (tick : ℕ) → as_block verdict ≡ Block tick → verdict ≡ Ok tick
accepted (Ok found) tick e = ap (λ n. Ok n) (same found tick e)
  where
    same : (found tick : ℕ) → Block found ≡ Block tick → found ≡ tick
    same found tick e = cc
accepted (Err refusal) tick e = absurd cc

-- a block that is accepted is short enough, and all its lines are accepted
pub came_block : (site : Site) (digest : List ℕ) (panel : ℕ) (bytes : List ℕ) (tick : ℕ) → what_came site digest panel bytes ≡ Block tick
    → (own_verdict_of site panel bytes ≡ Ok tick) × (length bytes ≤ most_block_bytes)
came_block site digest panel [] tick e = absurd cc
came_block site digest panel (byte ∷ bytes) tick e = framed (byte == 70) e
  where
    long : (b : Bool) → nat_lt most_block_bytes (length (byte ∷ bytes)) ≡ b
        → (if b then TooLong else as_block (own_verdict_of site panel (byte ∷ bytes))) ≡ Block tick
        → (own_verdict_of site panel (byte ∷ bytes) ≡ Ok tick) × (length (byte ∷ bytes) ≤ most_block_bytes)
    long true is h = absurd cc
    long false is h = (accepted (own_verdict_of site panel (byte ∷ bytes)) tick h, ltb-false most_block_bytes (length (byte ∷ bytes)) is)

    framed : (b : Bool)
        → (if b then as_frame (frame_read site digest panel (byte ∷ bytes))
        else if nat_lt most_block_bytes (length (byte ∷ bytes)) then TooLong else as_block (own_verdict_of site panel (byte ∷ bytes))) ≡ Block tick
        → (own_verdict_of site panel (byte ∷ bytes) ≡ Ok tick) × (length (byte ∷ bytes) ≤ most_block_bytes)
    framed true h = absurd (no_block (frame_read site digest panel (byte ∷ bytes)) tick h)
    framed false h = long (nat_lt most_block_bytes (length (byte ∷ bytes))) refl h

-- what came is told by the site, the digest and the panel that are meant
pub came_so : (site there : Site) (digest given : List ℕ) (panel at : ℕ) (bytes : List ℕ) (came : NodeInput) → there ≡ site → given ≡ digest → at ≡ panel
    → came ≡ what_came there given at bytes → came ≡ what_came site digest panel bytes
came_so site there digest given panel at bytes came same_site same_digest same_panel is =
    is
    ∙ ap (λ s. what_came s given at bytes) same_site
    ∙ ap (λ d. what_came site d at bytes) same_digest
    ∙ ap (λ p. what_came site digest p bytes) same_panel
