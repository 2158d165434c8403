use Rattle.std.proofs.Common.{[], ◌++◌, ◌∙◌, ◌∷◌, ap, sym}
use Rattle.panel_rules.specs.Moments.{Happened, tick_of}
use Rattle.panel_rules.specs.Operations.{request_of, requests}
use Rattle.operation_desk.proofs.Asked.{can_ask, desk_asked, own_panel}
use Rattle.operation_desk.proofs.desk.Desk.event.Goals as goal

pub ask-requires : goal.ask-requires
ask-requires c =
    let r = c.requires in
    let i = c.in-Op in
    let site = c.args.site.now in
    let asked = requests site r.before in
    let same =
    ap (λ e. requests site (Happened e ∷ r.before)) i.is
    ∙ ap (λ l. asked ++ request_of (tick_of r.before) i.panel l i.operation asked ∷ []) (sym c.level_by.ensures) in
    can_ask site r.kept i.panel c.level_by.result i.operation r.before c.args.self.now r.stands
    (own_panel site r.before c.args.event.now _ same r.valid r.of) c.args.event.now same r.valid r.of r.few

pub returns-in-Op : goal.returns-in-Op
returns-in-Op c kept before h of =
    let i = c.in-Op in
    let site = c.args.site.now in
    let asked = requests site before in
    let same =
    ap (λ e. requests site (Happened e ∷ before)) i.is
    ∙ ap (λ l. asked ++ request_of (tick_of before) i.panel l i.operation asked ∷ []) (sym c.level_by.ensures) in
    desk_asked site kept i.panel c.level_by.result i.operation before c.args.self.now h
    (own_panel site before c.args.event.now _ same c.requires.valid of) c.args.event.now same c.ask.new.self c.ask.ensures
