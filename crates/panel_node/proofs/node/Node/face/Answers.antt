use mathlib.Core.Path.{fun_ext}
use Rattle.std.proofs.Common.{◌∙◌, ◌-◌, ℕ, ap, sym}
use Rattle.std.specs.Prelude.{slice_index}
use Rattle.site_types.specs.declared.word.Word.{Word}
use Rattle.face_text.specs.declared.face.Face.{Face}
use Rattle.hold_calls.specs.Turns.{hold_turns}
use Rattle.hold_calls.proofs.FaultsHeld.{faults_by_told}
use Rattle.hold_calls.proofs.NewsHeld.{buzzer_by_told}
use Rattle.kept_words.specs.Arrivals.{word_kept}
use Rattle.node_rules.specs.Handed.{handed_facts, handed_faults}
use Rattle.node_rules.specs.Histories.{befallen, frames_in}
use Rattle.node_rules.specs.Nodes.{node_up, node_words}
use Rattle.node_rules.specs.Shown.{handed_buzzer, handed_face, word_on_face}
use Rattle.panel_core.proofs.WholeFaces.{same_face}
use Rattle.panel_parts.specs.Applied.{applied, done_so_far}
use Rattle.panel_rules.specs.Batches.{kept_after}
use Rattle.panel_rules.specs.Faces.{counter_in}
use Rattle.panel_rules.specs.Moments.{tick_of}
use Rattle.panel_rules.specs.Outputs.{is_confirmed_out, is_on, outputs_where}
use Rattle.panel_node.specs.Told.{told_by_frames}
use Rattle.panel_node.proofs.HandedNow.{buzzer_handed, buzzer_now, confirmed_now, faults_now, on_now}
use Rattle.panel_node.proofs.Words.{faults_handed}
use Rattle.panel_node.proofs.node.Node.face.Goals as goal

pub returns : goal.returns
returns c = record {
  shown = λ site panel kept history h run. (
      let before = befallen history in
      let done = applied site kept before in
      let all = done_so_far site kept before in
      let told = told_by_frames site kept done panel history in
      let turns = hold_turns site kept done told panel before in
      let handed = node_words site panel history in
      let up = node_up site panel history in
      let now : ℕ → Word = λ source. word_kept panel source (frames_in history) in
      let stored = kept_after site kept before in
      let node = c.args.self.now in
      let face = record c.empty-face.result {
        zones = c.zones_shown.result.0;
        firsts = c.zones_shown.result.1;
        faults = c.faults-face.result;
        outputs = c.on.result;
        confirmed = c.confirmed.result;
        buzzer = c.buzzer-face.result;
        counter = slice_index node.counts.counters (panel - 1);
      } in
      rw h.own at c.show_settings.ensures.in_force site kept (tick_of before) all h.things h.settings (word_on_face site kept all panel handed up now before)
      (handed_faults site kept all panel handed up before) (λ output. is_on site (handed_facts site kept all panel handed up) kept all output before)
      (λ output. is_confirmed_out site (handed_facts site kept all panel handed up) kept all output before) (handed_buzzer site kept all panel handed up before)
      (counter_in panel stored)
      ∙ same_face (handed_face site kept all panel handed up now stored before) face
      (ap (λ (f : Face). f.panel) c.empty-face.ensures ∙ h.own)
      (c.zones_shown.ensures.alarms site panel kept history h run)
      (c.zones_shown.ensures.firsts site panel kept history h run)
      (c.faults-face.ensures site kept panel done turns h.parts.holds ∙ faults_by_told site kept done told panel before
      ∙ faults_handed site kept done panel history before ∙ sym (faults_now site kept panel history))
      (c.on.ensures site told.facts kept done panel before h.parts.drives ∙ sym (ap (outputs_where site panel) (fun_ext (on_now site kept panel history))))
      (c.confirmed.ensures site told.facts kept done panel before h.parts.drives h.valid run h.events
      ∙ sym (ap (outputs_where site panel) (fun_ext (confirmed_now site kept panel history))))
      (c.buzzer-face.ensures site kept panel done turns h.parts.holds ∙ buzzer_by_told site kept done told panel before h.valid h.parts.member run
      ∙ buzzer_handed site kept done panel history before ∙ sym (buzzer_now site kept panel history))
      (ap (λ counters. slice_index counters (panel - 1)) h.counts.counters));
}
