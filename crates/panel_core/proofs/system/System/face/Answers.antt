use mathlib.Core.Path.{fun_ext}
use Rattle.std.proofs.Common.{◌∙◌, ◌-◌, ap, sym}
use Rattle.std.specs.Prelude.{slice_index}
use Rattle.face_text.specs.declared.face.Face.{Face}
use Rattle.hold_calls.specs.Turns.{ring_turns}
use Rattle.hold_calls.proofs.FaultsHeld.{faults_held}
use Rattle.hold_calls.proofs.NewsHeld.{buzzer_held}
use Rattle.panel_rules.specs.Batches.{kept_after}
use Rattle.panel_rules.specs.Faces.{buzzer_of, counter_in, face_with, shown_word}
use Rattle.panel_rules.specs.Moments.{tick_of}
use Rattle.panel_rules.specs.Outputs.{is_confirmed_out, is_on, outputs_where}
use Rattle.panel_rules.specs.Run.{facts_of, faults_of}
use Rattle.panel_parts.specs.Applied.{applied, done_so_far}
use Rattle.panel_core.proofs.PromisedFaces.{counter, faults, outputs, settings, zones}
use Rattle.panel_core.proofs.Shows.{asked_panel}
use Rattle.panel_core.proofs.WholeFaces.{buzzer_now, confirmed_now, faults_now, on_now, same_face}
use Rattle.panel_core.proofs.system.System.face.Goals as goal

pub returns-clause-shown : goal.returns-clause-shown
returns-clause-shown c site kept before h run =
    let panel = c.args.panel in
    let done = applied site kept before in
    let all = done_so_far site kept before in
    let facts = facts_of site kept done in
    let turns = ring_turns site kept done panel before in
    let stored = kept_after site kept before in
    let face = record c.empty-face.result {
      zones = c.zones_shown-zones.result.alarms;
      firsts = c.zones_shown-zones.result.firsts;
      faults = c.faults-face.result;
      outputs = c.on.result;
      confirmed = c.confirmed.result;
      buzzer = c.buzzer-face.result;
      counter = slice_index c.args.self.now.counts.counters (panel - 1);
    } in
    let stands = asked_panel site kept before c.args.self.now panel c.index-parts.result.now c.requires h c.index-parts.ensures in
    c.show_settings.ensures.in_force site kept (tick_of before) all h.own h.settings (shown_word site kept all panel before)
    (faults_of site kept all panel before) (λ output. is_on site (facts_of site kept all) kept all output before)
    (λ output. is_confirmed_out site (facts_of site kept all) kept all output before) (buzzer_of site kept all panel before)
    (counter_in panel stored)
    ∙ same_face (face_with site kept all stored panel before) face
    (ap (λ (f : Face). f.panel) c.empty-face.ensures)
    (c.zones_shown-zones.ensures.alarms site kept before h run)
    (c.zones_shown-zones.ensures.firsts site kept before h run)
    (c.faults-face.ensures site kept panel done turns stands.holds ∙ faults_held site kept done panel before ∙ sym (faults_now site kept before panel))
    (c.on.ensures site facts kept done panel before stands.drives
    ∙ sym (ap (outputs_where site panel) (fun_ext (on_now site kept before panel))))
    (c.confirmed.ensures site facts kept done panel before stands.drives h.valid run h.events
    ∙ sym (ap (outputs_where site panel) (fun_ext (confirmed_now site kept before panel))))
    (c.buzzer-face.ensures site kept panel done turns stands.holds ∙ buzzer_held site kept done panel before h.valid stands.member run
    ∙ sym (buzzer_now site kept before panel))
    (ap (λ counters. slice_index counters (panel - 1)) h.counts.counters)

pub returns-clause-zones : goal.returns-clause-zones
returns-clause-zones c = zones c.args.self.now c.args.panel _ c.requires (returns-clause-shown c)

pub returns-clause-outputs : goal.returns-clause-outputs
returns-clause-outputs c = outputs c.args.self.now c.args.panel _ c.requires (returns-clause-shown c)

pub returns-clause-faults : goal.returns-clause-faults
returns-clause-faults c = faults c.args.self.now c.args.panel _ c.requires (returns-clause-shown c)

pub returns-clause-settings : goal.returns-clause-settings
returns-clause-settings c = settings c.args.self.now c.args.panel _ c.requires (returns-clause-shown c)

pub returns-clause-counter : goal.returns-clause-counter
returns-clause-counter c = counter c.args.self.now c.args.panel _ c.requires (returns-clause-shown c)
