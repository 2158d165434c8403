use Rattle.std.proofs.Common.{◌∙◌, ap, sym}
use Rattle.site_types.specs.Carry.{was_restricted}
use Rattle.site_types.proofs.Finding.{thing_named_iff}
use Rattle.site_types.proofs.Namesakes.{restricted_by_name}
use Rattle.site_types.proofs.carry_over.was_restricted.Goals as goal

pub returns-in-Some : goal.returns-in-Some
returns-in-Some c =
    c.is_restricted.ensures
    ∙ restricted_by_name c.args.old.now c.args.state.now c.args.restriction c.as_bytes.result.now
    (thing_named_iff c.args.old.now c.requires.names c.as_bytes.result.now) _ (sym c.find.ensures ∙ c.in-Some.is)
    ∙ ap (was_restricted c.args.old.now c.args.state.now c.args.restriction) (c.as_bytes.ensures.value ∙ c.as_str.ensures.value)

pub returns-in-None : goal.returns-in-None
returns-in-None c =
    restricted_by_name c.args.old.now c.args.state.now c.args.restriction c.as_bytes.result.now
    (thing_named_iff c.args.old.now c.requires.names c.as_bytes.result.now) _ (sym c.find.ensures ∙ c.in-None.is)
    ∙ ap (was_restricted c.args.old.now c.args.state.now c.args.restriction) (c.as_bytes.ensures.value ∙ c.as_str.ensures.value)
