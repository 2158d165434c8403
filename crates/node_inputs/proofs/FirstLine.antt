-- The first line of a block of a panel by itself.
use Rattle.std.proofs.Common.{◌≡◌, ◌∙◌, ℕ, List, [], drop, Option, Ok, Err, sym, ap}
use Rattle.site_types.specs.declared.site.Site.{Site}
use Rattle.record_lines.specs.Stands.{Feeds}
use Rattle.record_lines.specs.declared.fed.Fed.{Fed}
use Rattle.record_lines.specs.declared.reader.LineReader.{LineReader}
use Rattle.desk_ticks.specs.declared.block_refusal.BlockRefusal.{BlockRefusal}
use Rattle.desk_ticks.specs.Blocks.{behind_line, verdict_by}
use Rattle.desk_ticks.specs.Stops.{named_by}
use Rattle.desk_ticks.proofs.First.{first_behind, first_named}
use Rattle.node_inputs.specs.OwnBlocks.{own_refusal_behind, own_verdict_of}

module _ (site : Site) (block : List ℕ) (fed : Fed) (reader : LineReader) (feeds : Feeds site [] block fed reader) where
  -- the first line is refused
  pub own_refused_first : (panel number : ℕ) → named_by fed.step ≡ Err number → own_verdict_of site panel block ≡ Err (record { line = 1; number = number })
  own_refused_first panel number e =
      ap (λ named. verdict_by named (own_refusal_behind site panel (behind_line block))) (first_named site block fed reader feeds ∙ e)

  -- it names a tick, and the lines behind it decide
  pub own_named_first : (panel tick : ℕ) (behind : Option BlockRefusal) → named_by fed.step ≡ Ok tick
      → behind ≡ own_refusal_behind site panel (drop fed.used block) → own_verdict_of site panel block ≡ verdict_by (Ok tick) behind
  own_named_first panel tick behind e is =
      ap (λ named. verdict_by named (own_refusal_behind site panel (behind_line block))) (first_named site block fed reader feeds ∙ e)
      ∙ ap (λ xs. verdict_by (Ok tick) (own_refusal_behind site panel xs)) (first_behind site block fed reader feeds tick e)
      ∙ ap (verdict_by (Ok tick)) (sym is)
