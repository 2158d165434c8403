-- A site that the bytes of a site file spell is valid.
use Rattle.std.proofs.Common.{◌≡◌, ℕ, List, None, map}
use Rattle.toml.specs.Data.{Members}
use Rattle.site_types.specs.Valid.{IsValid}
use Rattle.site_types.specs.declared.site.Site.{Site}
use Rattle.site_document.specs.declared.draft.Draft.{Draft}
use Rattle.site_document.specs.Drafts.{draft_of}
use Rattle.site_document.specs.Walk.{finding}
use Rattle.site_config.specs.Claims.{named_in, twice_in}
use Rattle.site_config.specs.Crossing.{crossing_in, spot_of}
use Rattle.site_config.specs.NoSuch.{no_such_in}
use Rattle.site_config.specs.Partners.{unmutual_in}
use Rattle.site_config.specs.Sites.{IsPlaced, IsSpelled, draft_finding, site_finding}
use Rattle.site_config.proofs.SectionZones.{sections}
use Rattle.site_config.proofs.MutualPartners.{couples}
use Rattle.site_config.proofs.References.{references}
use Rattle.site_config.proofs.SiteForms.{HasDraftForms, SeenAs, draft_forms, seen_as, site_forms}
use Rattle.site_config.proofs.Twins.{names_listed, no_twins}
use Rattle.site_config.proofs.CleanKeys.{none_first, none_later}

-- nothing is wrong in a draft
record IsSound (draft : Draft) : Type 0 where
  once : twice_in draft ≡ None
  there : no_such_in (named_in draft) draft ≡ None
  apart : crossing_in (map (spot_of (named_in draft)) draft.points) draft.loops ≡ None
  coupled : unmutual_in (named_in draft) draft.zones ≡ None

sound : (draft : Draft) → draft_finding draft ≡ None → IsSound draft
unfolding draft_finding
sound draft e =
    let rest = none_later (twice_in draft) _ e in
    let last = none_later (no_such_in (named_in draft) draft) _ rest in record {
      once = none_first (twice_in draft) _ e;
      there = none_first (no_such_in (named_in draft) draft) _ rest;
      apart = none_first (crossing_in (map (spot_of (named_in draft)) draft.points) draft.loops) (unmutual_in (named_in draft) draft.zones) last;
      coupled = none_later (crossing_in (map (spot_of (named_in draft)) draft.points) draft.loops) (unmutual_in (named_in draft) draft.zones) last;
    }

valid_by : (draft : Draft) (site : Site) → HasDraftForms draft → IsSound draft → IsPlaced draft site → IsValid site
valid_by draft site forms is placed =
    let seen : SeenAs (named_in draft) draft site = seen_as (named_in draft) draft site placed.seen in record {
      forms = site_forms (named_in draft) draft site seen forms;
      twins = no_twins draft site seen is.once;
      references = references draft site seen is.once forms is.there;
      sections = sections (named_in draft) draft site seen is.apart;
      partners = couples draft site seen is.once is.coupled;
      names = names_listed draft site seen is.once placed.named;
    }

clean_both : (doc : Members) → site_finding doc ≡ None → (finding doc ≡ None) × (draft_finding (draft_of doc) ≡ None)
unfolding site_finding
clean_both doc e = (none_first (finding doc) (draft_finding (draft_of doc)) e, none_later (finding doc) (draft_finding (draft_of doc)) e)

pub valid_spelled : (bytes : List ℕ) (site : Site) → IsSpelled bytes site → IsValid site
valid_spelled bytes site is =
    let clean = clean_both is.document is.accepted.clean in
    valid_by (draft_of is.document) site (draft_forms is.document clean.0) (sound (draft_of is.document) clean.1) is.placed
