use Rattle.std.proofs.Common.{◌∙◌, ap, arith}
use Rattle.site_types.specs.declared.word.Word.{Word}
use Rattle.site_types.specs.Done.{muted_before}
use Rattle.panel_rules.specs.Moments.{IsPanel}
use Rattle.panel_rules.specs.Words.{latest_word}
use Rattle.panel_rules.specs.Run.{tells_fault}
use Rattle.plain_panel.specs.declared.indications.Indications.{Indications}
use Rattle.plain_history.specs.Histories.{all_done}
use Rattle.plain_panel.proofs.HoldsShown.{sounds_same}
use Rattle.panel_bridges.proofs.RingStates.{latest_stamp}
use Rattle.plain_panel.proofs.network.Network.buzzer.Goals as goal

pub returns : goal.returns
returns c kept before stands =
    let size = stands.size in
    let told = tells_fault c.args.site.now kept (all_done c.args.done.now) in
    let p : IsPanel c.args.site.now.panels c.args.panel = (c.requires.0, omega (arith, size, c.requires.1)) in
    let word = ap (λ (o : Indications). o.word) c.indications-shown.ensures ∙ stands.words c.args.panel p in
    let stamp = ap (λ (w : Word). w.stamp.0) word ∙ latest_stamp c.args.site.now kept (all_done c.args.done.now) told c.args.panel before in
    let muted = c.muted_before-muted.ensures ∙ ap (λ t. muted_before c.args.panel t (all_done c.args.done.now)) stamp in
    c.sounds.ensures
    ∙ sounds_same _ (latest_word c.args.site.now kept (all_done c.args.done.now) told c.args.panel before) _ _ _ _ word muted
    (ap (λ (o : Indications). o.news.0) c.indications-shown.ensures ∙ stands.news c.args.panel p)
