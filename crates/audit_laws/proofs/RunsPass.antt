-- What a run writes passes an audit.
use Rattle.std.proofs.Common.{◌≤◌, List, length, refl, sym, subst, arith}
use Rattle.std.proofs.lemmas.List.{length-map}
use Rattle.site_types.specs.declared.retained.Retained.{Retained}
use Rattle.site_types.specs.declared.site.Site.{Site}
use Rattle.site_types.specs.Valid.{IsValid}
use Rattle.panel_rules.specs.Moments.{TickBlock, moments}
use Rattle.panel_rules.specs.Records.{AreOrdered}
use Rattle.panel_rules.specs.Timeline.{timeline_of}
use Rattle.panel_laws.proofs.TimelineForms.{in_form}
use Rattle.run_text.specs.Failures.{as_recorded, without_failure}
use Rattle.audit_rules.specs.declared.audit_rule.AuditRule.{AuditRule}
use Rattle.audit_rules.specs.declared.audit_rule.AuditRule.TheVariants.{Length, Answer, Indication}
use Rattle.audit_rules.specs.declared.audit_rule.AuditRule.TheVariants.{Output as OutputRule, Zone as ZoneRule, Cause}
use Rattle.audit_rules.specs.declared.verdict.Verdict.TheVariants.{Passed}
use Rattle.audit_rules.specs.Breaches.{Breach, BreaksRule, IsBreach}
use Rattle.audit_rules.specs.Verdicts.{IsJudged, is_judged, is_passed}
use Rattle.audit_laws.specs.AccountsTold.{TellsSilences}
use Rattle.audit_laws.specs.RunsPass.{RunsPass, TextsPass}
use Rattle.audit_laws.proofs.AccountsTold.{account_told, output_rule_kept}
use Rattle.audit_laws.proofs.AnswersJudged.{answer_rule_kept}
use Rattle.audit_laws.proofs.CausesJudged.{cause_rule_kept}
use Rattle.audit_laws.proofs.FacesTold.{length_told}
use Rattle.audit_laws.proofs.SilencesTold.{silences_told}
use Rattle.audit_laws.proofs.ZonesJudged.{zone_rules_kept}
use Rattle.audit_laws.proofs.ZonesTold.{zones_told}

module _ (site : Site) (kept : Retained) (ticks : List TickBlock) (valid : IsValid site) (ordered : AreOrdered site.panels ticks)
    (silences : TellsSilences site kept ticks) where
  unbroken : (rule : AuditRule) (breach : Breach) → breach.tick ≤ length ticks
      → BreaksRule site (as_recorded ticks) (timeline_of site kept (moments ticks)) rule breach → ⊥
  unbroken Length breach by b = b
  unbroken Answer breach by b = answer_rule_kept site kept ticks breach ordered b
  unbroken Indication breach by b =
      (zone_rules_kept site kept ticks breach valid ordered (zones_told site kept ticks valid ordered) by).0 b
  unbroken OutputRule breach by b =
      output_rule_kept site kept ticks breach valid ordered (account_told site kept ticks valid ordered silences) by b
  unbroken ZoneRule breach by b =
      (zone_rules_kept site kept ticks breach valid ordered (zones_told site kept ticks valid ordered) by).1 b
  unbroken Cause breach by b =
      cause_rule_kept site kept ticks breach valid ordered (account_told site kept ticks valid ordered silences) by b

  none : (breach : Breach) → ¬ IsBreach site (as_recorded ticks) (timeline_of site kept (moments ticks)) breach
  none breach b =
      let same = length-map ticks without_failure in
      let ends = b.ends in
      unbroken breach.rule breach (omega (arith, same, ends)) b.breaks

pub runs_pass : RunsPass
runs_pass site kept ticks valid ordered =
    subst (λ n. IsJudged site (as_recorded ticks) (timeline_of site kept (moments ticks)) (Passed n)) (length-map ticks without_failure)
    (is_passed (length_told site kept ticks) (none site kept ticks valid ordered (silences_told site kept ticks ordered)))

pub texts_pass : TextsPass
texts_pass site kept ticks lines can ordered ended tells =
    is_judged ended (timeline_of site kept (moments ticks))
    (record { form = in_form site kept (moments ticks) can; text_is = refl }) (Passed (length ticks))
    (subst (λ (told : List TickBlock). IsJudged site told (timeline_of site kept (moments ticks)) (Passed (length ticks))) (sym tells)
    (runs_pass site kept ticks can.valid ordered))
