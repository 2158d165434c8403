use Rattle.std.proofs.Common.{◌∙◌, ap, arith, sym}
use Rattle.tick_units.specs.declared.tick.Tick.{Tick}
use Rattle.site_types.specs.declared.word.Word.{Word}
use Rattle.panel_laws.proofs.HeardWords.{heard_is_stamp}
use Rattle.panel_rules.specs.Run.{tells_fault}
use Rattle.panel_rules.specs.Words.{kept_word_of}
use Rattle.panel_rules.proofs.RingWords.{kept_by_ring, newest_over_chains}
use Rattle.panel_parts.specs.Applied.{applied}
use Rattle.panel_core.proofs.Shows.{asked_member}
use Rattle.panel_core.proofs.system.System.heard.Goals as goal

pub heard-requires-clause-at : goal.heard-requires-clause-at
heard-requires-clause-at c = let r = c.requires.panel in let p = r.member in let size = r.stands.ring.size in (p.0, omega (arith, p.1, size))

pub heard-requires-clause-from : goal.heard-requires-clause-from
heard-requires-clause-from c = let r = c.requires.source in let p = r.member in let size = r.stands.ring.size in (p.0, omega (arith, p.1, size))

pub returns : goal.returns
returns c =
    record {
      ruled = λ site kept before h. (
          let told = tells_fault site kept (applied site kept before) in
          let p = asked_member site kept before c.args.self.now c.args.panel c.requires.panel h in
          let s = asked_member site kept before c.args.self.now c.args.source c.requires.source h in
          ap (λ (t : Tick). t.0) (c.heard.ensures.kept site.panels _ h.ring)
          ∙ ap (λ (w : Word). w.stamp.0) (kept_by_ring site kept (applied site kept before) told before c.args.panel c.args.source h.valid.forms.panels.1 p s)
          ∙ heard_is_stamp site kept (applied site kept before) told before c.args.panel c.args.source);
      greatest = λ site kept before h. (
          let done = applied site kept before in
          let told = tells_fault site kept done in
          let eight = h.valid.forms.panels.1 in
          let p = asked_member site kept before c.args.self.now c.args.panel c.requires.panel h in
          let s = asked_member site kept before c.args.self.now c.args.source c.requires.source h in
          record {
            word = kept_word_of site kept done told c.args.panel c.args.source before;
            is_newest = newest_over_chains site kept done told before c.args.panel c.args.source eight p s;
            of_word =
                sym (ap (λ (t : Tick). t.0) (c.heard.ensures.kept site.panels _ h.ring)
                ∙ ap (λ (w : Word). w.stamp.0) (kept_by_ring site kept done told before c.args.panel c.args.source eight p s));
          });
    }
