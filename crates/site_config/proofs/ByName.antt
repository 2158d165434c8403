-- What is found in a draft by the map of its names is what is wrong in it.
use Rattle.std.proofs.Common.{◌≡◌, ℕ, List, [], Option, Some, None, IfSome, map, ap, subst, ◌∙◌}
use Rattle.std.proofs.Math.Path.{fun_ext}
use Rattle.site_types.specs.declared.named.Thing.{Thing}
use Rattle.site_types.specs.declared.site.Site.{Site}
use Rattle.site_document.specs.declared.draft.Draft.{Draft}
use Rattle.site_document.specs.declared.refusal.SiteRefusal.{SiteRefusal}
use Rattle.site_document.specs.Refusals.{Refusal, IsSaid, or_later, refusal_of}
use Rattle.site_config.specs.declared.claim.Claim.{Claim}
use Rattle.site_config.specs.declared.spot.Spot.{Spot}
use Rattle.site_config.specs.Claims.{claims_of, named_in, onto, thing_named, twice_in}
use Rattle.site_config.specs.Crossing.{crossing_in, spot_of}
use Rattle.site_config.specs.NoSuch.{no_such_in}
use Rattle.site_config.specs.Partners.{unmutual_in}
use Rattle.site_config.specs.NamedList.{AreListed}
use Rattle.site_config.specs.Placing.{placed_site, site_view}
use Rattle.site_config.specs.Sites.{IsPlaced, draft_finding}

pub same_names : (draft : Draft) (claims : List Claim) (look : List ℕ → Option Thing) → claims ≡ claims_of draft
    → ((q : List ℕ) → look q ≡ thing_named (onto [] claims) q) → look ≡ named_in draft
unfolding named_in
same_names draft claims look e h = fun_ext (λ q. h q ∙ ap (λ cs. thing_named (onto [] cs) q) e)

still_found : (m : Option Refusal) (b rest : Option Refusal) → IfSome m (λ r. b ≡ Some r) → IfSome m (λ r. or_later b rest ≡ Some r)
still_found None b rest h = tt
still_found (Some r) b rest h = rw h

still_said : (e : SiteRefusal) (b rest : Option Refusal) → IsSaid e b → IsSaid e (or_later b rest)
still_said e b rest said = (said.0, still_found (refusal_of e) b rest said.1)

pub references_said : (draft : Draft) (look : List ℕ → Option Thing) (e : SiteRefusal) → look ≡ named_in draft → twice_in draft ≡ None
    → IsSaid e (no_such_in look draft) → IsSaid e (draft_finding draft)
unfolding draft_finding
references_said draft look e same clean said =
    let there = rw same at said in
    rw clean (still_said e (no_such_in (named_in draft) draft) _ there)

pub nothing : (draft : Draft) (look : List ℕ → Option Thing) (spots : List Spot) → look ≡ named_in draft → twice_in draft ≡ None
    → no_such_in look draft ≡ None
    → spots ≡ map (spot_of look) draft.points → crossing_in spots draft.loops ≡ None → unmutual_in look draft.zones ≡ None
    → draft_finding draft ≡ None
unfolding draft_finding
nothing draft look spots same clean there stand crossed paired =
    let there' = rw same at there in
    let stand' = rw same at stand in
    let crossed' = rw stand' at crossed in
    let paired' = rw same at paired in
    rw (clean, there', crossed', paired')

pub placed : (draft : Draft) (look : List ℕ → Option Thing) (site : Site) → look ≡ named_in draft → site_view site ≡ placed_site look draft
    → AreListed look site.names → IsPlaced draft site
placed draft look site same seen named = record {
  seen = seen ∙ ap (λ l. placed_site l draft) same;
  named = let P : (List ℕ → Option Thing) → Type 0 = λ l. AreListed l site.names in subst P same named;
}
