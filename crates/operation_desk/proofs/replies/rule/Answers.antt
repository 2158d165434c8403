use Rattle.std.proofs.Common.{◌∙◌, ap, inl, inr, sym}
use Rattle.std.specs.Prelude.{option_map}
use Rattle.site_types.proofs.Done.{lt_tells}
use Rattle.access_levels.specs.Levels.{needed_by}
use Rattle.panel_settings.specs.Settings.{setting_from}
use Rattle.operation_desk.proofs.Rules.{goes_to_keep, stands, waits}
use Rattle.operation_desk.proofs.replies.rule.Goals as goal

pub returns-then-is_unsettled : goal.returns-then-is_unsettled
returns-then-is_unsettled c kept so_far told force panel early =
    waits c.args.site.now kept c.args.settings.now c.args.request.now so_far c.args.waiting.now c.args.done.now (setting_from c.in-Some.setting)
    told force panel early
    (elim (lt_tells c.args.request.now.level (needed_by c.args.request.now.operation)) [ inl t ↦ (let e = sym (c.allowed.ensures.denied t.1) ∙ c.in_default.is in absurd cc) | inr t ↦ t.0 ])
    (sym c.setting_of.ensures ∙ ap (option_map setting_from) c.in-Some.is) (sym c.is_unsettled.ensures ∙ c.if-is_unsettled.true)

pub returns-then-stands_so : goal.returns-then-stands_so
returns-then-stands_so c kept so_far told force panel early =
    stands c.args.site.now kept c.args.settings.now c.args.request.now so_far c.args.waiting.now c.args.done.now (setting_from c.in-Some.setting)
    told force panel early
    (elim (lt_tells c.args.request.now.level (needed_by c.args.request.now.operation)) [ inl t ↦ (let e = sym (c.allowed.ensures.denied t.1) ∙ c.in_default.is in absurd cc) | inr t ↦ t.0 ])
    (sym c.setting_of.ensures ∙ ap (option_map setting_from) c.in-Some.is) (sym c.is_unsettled.ensures ∙ c.if-is_unsettled.false) (sym c.stands_so.ensures ∙ c.if-stands_so.true)

pub returns-else-stands_so : goal.returns-else-stands_so
returns-else-stands_so c kept so_far told force panel early =
    goes_to_keep c.args.site.now kept c.args.settings.now c.args.request.now so_far c.args.waiting.now c.args.done.now (setting_from c.in-Some.setting)
    told force panel early
    (elim (lt_tells c.args.request.now.level (needed_by c.args.request.now.operation)) [ inl t ↦ (let e = sym (c.allowed.ensures.denied t.1) ∙ c.in_default.is in absurd cc) | inr t ↦ t.0 ])
    (sym c.setting_of.ensures ∙ ap (option_map setting_from) c.in-Some.is) (sym c.is_unsettled.ensures ∙ c.if-is_unsettled.false) (sym c.stands_so.ensures ∙ c.if-stands_so.false)
