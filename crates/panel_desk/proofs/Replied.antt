-- What is done for a reply.
use Rattle.std.proofs.Common.{◌≡◌, ◌∙◌, ◌≤◌, ℕ, Bool, true, false, List, ◌∷◌, length, Ok, Err, refl, sym, ap, subst, arith}
use Rattle.panel_desk.specs.Acting.{HasReplied, IsAtHand}
use Rattle.panel_desk.specs.Replies.{AnswersBlock, TakesBlock, other_tick, refused_line}
use Rattle.panel_desk.specs.Serving.{MayServe}
use Rattle.service_register.specs.Points.{PointRow}
use Rattle.panel_desk.specs.declared.reply.Reply.{Reply}
use Rattle.panel_desk.specs.declared.reply.Reply.TheVariants.{Tick}
use Rattle.desk_runs.specs.Running.{MayRunWith, RanBlock}
use Rattle.desk_runs.specs.Ticks.{HasRoomForTick, at_rest, is_next, tick_told}
use Rattle.desk_ticks.specs.Blocks.{most_block_bytes, verdict_of}
use Rattle.desk_ticks.specs.declared.block_refusal.BlockRefusal.{BlockRefusal}
use Rattle.panel_rules.specs.Moments.{TickBlock}
use Rattle.site_run.specs.Outside.{Disks, stored_new, stored_old}
use Rattle.site_run.specs.Records.{Progress}
use Rattle.site_run.specs.Stands.{Stands}
use Rattle.site_run.specs.declared.run.Run.{Run}
use Rattle.site_run.proofs.Cuts.{stores_same}
use Rattle.site_types.specs.declared.retained.Retained.{Retained}
use Rattle.site_types.specs.declared.site.Site.{Site}

-- a run stands for one site alone
pub same_site : (site other : Site) (kept kept' : Retained) (p p' : Progress) (run : Run) → Stands site kept p run → Stands other kept' p' run → site ≡ other
same_site site other kept kept' p p' run h g = sym h.system.same ∙ g.system.same

-- so a desk that may serve has as many panels as that site
pub panels_of_site : {panels : ℕ} {points : List PointRow} {site : Site} {kept : Retained} {p : Progress} {run : Run} → MayServe panels points run
    → Stands site kept p run → panels ≡ site.panels
panels_of_site may stands = may.panels_are ∙ ap (λ (s : Site). s.panels) (same_site _ _ _ _ _ _ _ may.stands stands)

-- a reply was made, and no tick was run
pub without_tick : (Does : List TickBlock → Type 0) (site : Site) (kept : Retained) (ticks : List TickBlock) (disks : Disks) (reply : Reply) (run : Run)
    → disks.new ≡ disks.old → Stands site kept (at_rest ticks) run → Does ticks → IsAtHand site kept ticks reply run
    → HasReplied Does site kept ticks disks reply run run
without_tick Does site kept ticks disks reply run same stands does at_hand =
    record {
      after = ticks;
      does = does;
      stands = stands;
      at_hand = at_hand;
      stores = stores_same site kept (stored_old disks run) (stored_new disks run) ticks same refl;
      few = omega arith;
    }

-- the same of what follows from what was done
pub replied_as : (P Q : List TickBlock → Type 0) (site : Site) (kept : Retained) (ticks : List TickBlock) (disks : Disks) (reply : Reply) (old run : Run)
    → ((after : List TickBlock) → P after → Q after) → HasReplied P site kept ticks disks reply old run → HasReplied Q site kept ticks disks reply old run
replied_as P Q site kept ticks disks reply old run f h =
    record { after = h.after; does = f h.after h.does; stands = h.stands; at_hand = h.at_hand; stores = h.stores; few = h.few }

both : {X : Type 0} (b : Bool) → b ≡ true → b ≡ false → X
both true e f = absurd cc
both false e f = absurd cc

module _ (site : Site) (kept : Retained) (ticks : List TickBlock) (body : List ℕ) (disks : Disks) where
  -- a reply to a block
  abbrev pub AnswersIt : Reply → List TickBlock → Type 0
  AnswersIt reply after = AnswersBlock site body ticks after (verdict_of site body) reply

  -- a line of a block was refused
  pub refused_block : (run : Run) (refusal : BlockRefusal) (reply : Reply) → disks.new ≡ disks.old → Stands site kept (at_rest ticks) run
      → verdict_of site body ≡ Err refusal → reply ≡ refused_line refusal → HasReplied (AnswersIt reply) site kept ticks disks reply run run
  refused_block run refusal reply same stands verdict is =
      without_tick (AnswersIt reply) site kept ticks disks reply run same stands
      (subst (λ v. AnswersBlock site body ticks ticks v reply) (sym verdict) (refl, is)) (subst (λ told. IsAtHand site kept ticks told run) (sym is) tt)

  -- it is the block of another tick
  pub other_block : (run : Run) (found : ℕ) (reply : Reply) → disks.new ≡ disks.old → Stands site kept (at_rest ticks) run
      → verdict_of site body ≡ Ok found → is_next found run.ticks ≡ false → reply ≡ other_tick run.ticks found
      → HasReplied (AnswersIt reply) site kept ticks disks reply run run
  other_block run found reply same stands verdict not_next is =
      let later = ap (is_next found) (sym stands.count) ∙ not_next in
      let told = is ∙ ap (λ n. other_tick n found) stands.count in
      let takes : TakesBlock site found body ticks ticks reply =
      record { runs = λ next. both (is_next found (length ticks)) next later; refuses = λ other. (refl, told) } in
      without_tick (AnswersIt reply) site kept ticks disks reply run same stands
      (subst (λ v. AnswersBlock site body ticks ticks v reply) (sym verdict) takes) (subst (λ r. IsAtHand site kept ticks r run) (sym told) tt)

  -- the block of the next tick may be run
  pub may_run : (run : Run) (found : ℕ) → Stands site kept (at_rest ticks) run → HasRoomForTick ticks → length body ≤ most_block_bytes
      → verdict_of site body ≡ Ok found → is_next found run.ticks ≡ true → MayRunWith site kept ticks found body run
  may_run run found stands room short verdict next =
      record { stands = stands; room = room; accepted = verdict; short = short; next = ap (is_next found) (sym stands.count) ∙ next }

  -- and it was run
  pub block_run : (old run : Run) (found : ℕ) → verdict_of site body ≡ Ok found → is_next found (length ticks) ≡ true
      → RanBlock site kept ticks body disks old run → HasReplied (AnswersIt Tick) site kept ticks disks Tick old run
  block_run old run found verdict next ran =
      let after = tick_told site ran.failed body ∷ ticks in
      let takes : TakesBlock site found body ticks after Tick =
      record {
        runs = λ is. (ran.failed, refl, refl);
        refuses = λ other. both (is_next found (length ticks)) next other;
      } in
      record {
        after = after;
        does = subst (λ v. AnswersBlock site body ticks after v Tick) (sym verdict) takes;
        stands = ran.stands;
        at_hand = (tick_told site ran.failed body, ticks, refl, ran.shown);
        stores = ran.stores;
        few = ran.few;
      }
