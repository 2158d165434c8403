-- What the claims of a draft tell, where the keys and values of its document are right.
use Rattle.std.proofs.Common.{◌≡◌, ℕ, List, [], Option, None, Result, Ok, Err, IfOk, ap, sym, subst, ◌∙◌}
use Rattle.std.specs.BTreeMap.{BTreeMap}
use Rattle.std.specs.Prelude.{String}
use Rattle.std.specs.declared.alloc.Global.{Global}
use Rattle.site_types.specs.declared.loop_plan.LoopPlan.{LoopPlan}
use Rattle.site_types.specs.declared.named.Thing.{Thing}
use Rattle.site_document.specs.declared.draft.Draft.{Draft}
use Rattle.site_document.specs.declared.refusal.SiteRefusal.{SiteRefusal}
use Rattle.site_document.specs.Refusals.{Refusal, Tells, or_later}
use Rattle.site_config.specs.declared.claim.Claim.{Claim}
use Rattle.site_config.specs.Claims.{claims_by, claims_of, first_twice, kept_place, loop_twice, named_in, onto, thing_named, twice_in}
use Rattle.site_config.specs.NameMaps.{look_up}
use Rattle.site_config.specs.Sites.{IsOfClean}
use Rattle.site_config.proofs.ByName.{same_names}
use Rattle.site_config.proofs.FewParts.{few_parts}
use Rattle.site_config.proofs.KeptClaims.{kept_twice, kept_whole}
use Rattle.site_config.proofs.SiteForms.{HasDraftForms, draft_forms}

clean_forms : (draft : Draft) → IsOfClean draft → HasDraftForms draft
clean_forms draft h = subst (λ (d : Draft). HasDraftForms d) (sym h.spelled) (draft_forms h.document h.clean)

-- the first claim that was made before is the first thing that stands twice, where no loop does
pub told_twice : {A : Type 0} (r : Result A SiteRefusal) (draft : Draft) (loops : List LoopPlan) (claims : List Claim) → loops ≡ draft.loops
    → loop_twice [] 1 loops ≡ None → claims ≡ claims_by kept_place draft → Tells r (first_twice [] claims) → Tells r (twice_in draft)
unfolding twice_in
told_twice r draft loops claims same once e told =
    let loops_once : loop_twice [] 1 draft.loops ≡ None = ap (loop_twice [] 1) (sym same) ∙ once in
    let found : first_twice [] claims ≡ or_later (loop_twice [] 1 draft.loops) (first_twice [] (claims_of draft)) =
    ap (first_twice []) e ∙ kept_twice draft ∙ sym (ap (λ o. or_later o (first_twice [] (claims_of draft))) loops_once) in
    subst (λ (o : Option Refusal). Tells r o) found told

-- where no name or number is claimed twice, names stand for what they stand for in the draft
pub named_so : (r : Result (BTreeMap (String Global) Thing) SiteRefusal) (draft : Draft) (claims : List Claim) → IsOfClean draft
    → Tells r (twice_in draft)
    → claims ≡ claims_by kept_place draft → IfOk r (λ names. (q : List ℕ) → look_up names q ≡ thing_named (onto [] claims) q)
    → IfOk r (λ names. look_up names ≡ named_in draft)
named_so (Ok names) draft claims clean told e h =
    same_names draft claims (look_up names) (e ∙ kept_whole draft (few_parts draft (clean_forms draft clean) told)) h
named_so (Err refusal) draft claims clean told e h = tt
