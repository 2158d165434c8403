use Rattle.std.proofs.Common.{◌∙◌, ◌≤◌, ◌<◌, ℕ, ap, arith, false, slice_index_or}
use Rattle.site_types.specs.declared.word.Word.{Word}
use Rattle.site_types.specs.Bits.{mask_of}
use Rattle.site_types.specs.Valid.{IsPanel}
use Rattle.kept_words.specs.Arrivals.{word_kept}
use Rattle.kept_words.specs.Stands.{word_stored}
use Rattle.node_rules.specs.Handed.{facts_of_words}
use Rattle.panel_effects.proofs.HeardMasks.{faults_heard, zones_heard}
use Rattle.kept_facts.proofs.NamedZones.{named_is, told_of}
use Rattle.kept_facts.proofs.facts.facts_kept.Goals as goal

pub returns : goal.returns
returns c site panel arrivals valid stands are =
    let size = stands.size in
    let told_size = c.requires.0 in
    let few = c.requires.1 in
    let words = c.args.words.now in
    let held = c.loop-source.invariant in
    let kept = λ (source : ℕ). word_kept panel source arrivals in
    let facts = facts_of_words site kept in
    let word = λ (q : ℕ) (iq : IsPanel site q). stands.words q iq.0 (omega (arith, size, told_size, few, iq.1)) in
    let read = λ (q : ℕ) (iq : IsPanel site q). let small : q < c.loop-source.source = omega (arith, size, told_size, iq.1, c.loop-source-test.false) in small in
    let far = λ (q : ℕ) (beyond : site.panels < q). let long : c.loop-source.source ≤ q = omega arith in long in
    record {
      zones =
          zones_heard site valid facts.released c.loop-source.zones (λ q. (word_stored words q).released)
          (record {
            wide = held.zones_wide;
            heard = λ q iq. held.zones q iq.0 (read q iq);
            none = λ q beyond high. held.no_zones q (omega arith) (far q beyond) high;
          })
          (λ q iq. ap (λ (w : Word). w.released) (word q iq) ∙ named_is site q (λ p. (kept p).released) (are q iq).released);
      manual =
          zones_heard site valid facts.by_hand c.loop-source.manual (λ q. (word_stored words q).manual)
          (record {
            wide = held.manual_wide;
            heard = λ q iq. held.manual q iq.0 (read q iq);
            none = λ q beyond high. held.no_manual q (omega arith) (far q beyond) high;
          })
          (λ q iq. ap (λ (w : Word). w.manual) (word q iq) ∙ named_is site q (λ p. (kept p).manual) (are q iq).manual);
      faults =
          c.mask_from_8.ensures ∙ ap (λ (n : ℕ). mask_of n (λ k. slice_index_or c.loop-source.faulty k false)) held.faulty_wide
          ∙ faults_heard site facts.faulty c.loop-source.faulty (λ q. (word_stored words q).fault)
          (record {
            heard = λ q iq. held.faulty q iq.0 (read q iq);
            none = λ q beyond high. held.no_faulty q (omega arith) (far q beyond) high;
          })
          (λ q iq. ap (λ (w : Word). w.fault) (word q iq) ∙ told_of site q kept iq);
    }
