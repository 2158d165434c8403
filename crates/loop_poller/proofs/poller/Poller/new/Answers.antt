use Rattle.std.proofs.Common.{◌+◌, length, slice_index_or, ◌∙◌, ap}
use Rattle.std.proofs.lemmas.List.{get_or-replicate, length-replicate}
use Rattle.site_types.specs.declared.point_state.PointState.TheVariants.{Quiet}
use Rattle.site_types.specs.Things.{loop_of}
use Rattle.loop_poller.proofs.Faults.{no_flags, sound_unshorted, sound_whole}
use Rattle.loop_poller.proofs.Lines.{four_lines}
use Rattle.loop_poller.proofs.poller.Poller.new.Goals as goal

pub returns : goal.returns
returns c =
    record {
      asks = record {
        valid = c.requires;
        format = c.profile-profile.ensures;
        lines =
            four_lines c.args.site.now c.args.panel _ _ _ _ c.in_ok-new.ensures c.in_ok-new-2.ensures c.in_ok-new-3.ensures c.in_ok-new-4.ensures;
        blocks = c.in_ok-blocks.ensures;
        states = record {
          size = ap length c.in_ok-states.ensures ∙ length-replicate c.len.result Quiet ∙ c.len.ensures;
          each = λ point within. ap (λ xs. slice_index_or xs point Quiet) c.in_ok-states.ensures ∙ get_or-replicate
              c.len.result point Quiet Quiet (rw c.len.ensures within);
        };
      };
      faults = record {
        broken = no_flags _ (λ k. sound_whole (loop_of c.args.site.now c.args.panel (k + 1)));
        shorted = no_flags _ (λ k. sound_unshorted (loop_of c.args.site.now c.args.panel (k + 1)));
      };
    }
