-- What is wrong in a document, and the site that it spells where nothing is.
use Rattle.std.specs.Prelude.{◌≡◌, ℕ, List, None, Option, map}
use Rattle.toml.specs.Data.{Members}
use Rattle.site_types.specs.declared.site.Site.{Site}
use Rattle.site_document.specs.declared.draft.Draft.{Draft}
use Rattle.site_document.specs.Documents.{IsAccepted}
use Rattle.site_document.specs.Drafts.{draft_of}
use Rattle.site_document.specs.Refusals.{Refusal, or_later}
use Rattle.site_document.specs.Walk.{finding}
use Rattle.site_config.specs.Claims.{named_in, twice_in}
use Rattle.site_config.specs.Crossing.{crossing_in, spot_of}
use Rattle.site_config.specs.NamedList.{AreListed}
use Rattle.site_config.specs.NoSuch.{no_such_in}
use Rattle.site_config.specs.Partners.{unmutual_in}
use Rattle.site_config.specs.Placing.{placed_site, site_view}

-- what is wrong in a draft: names and numbers given twice, then names of nothing, sections that cross zones,
-- partners that aren't mutual
unfoldable pub draft_finding : Draft → Option Refusal
draft_finding draft =
    or_later (twice_in draft)
    (or_later (no_such_in (named_in draft) draft)
    (or_later (crossing_in (map (spot_of (named_in draft)) draft.points) draft.loops)
    (unmutual_in (named_in draft) draft.zones)))

-- what is wrong in a document: its keys and values first
unfoldable pub site_finding : Members → Option Refusal
site_finding doc = or_later (finding doc) (draft_finding (draft_of doc))

-- the draft is that of a document in whose keys and values nothing is wrong
pub record IsOfClean (draft : Draft) : Type 0 where
  pub document : Members
  pub clean : finding document ≡ None
  pub spelled : draft ≡ draft_of document

-- the site that a draft spells: its parts with places in place of names, and the list of its names
pub record IsPlaced (draft : Draft) (site : Site) : Type 0 where
  pub seen : site_view site ≡ placed_site (named_in draft) draft
  pub named : AreListed (named_in draft) site.names

-- the site that the bytes of a site file spell, in which nothing is wrong
pub record IsSpelled (bytes : List ℕ) (site : Site) : Type 0 where
  pub document : Members
  pub accepted : IsAccepted site_finding bytes document
  pub placed : IsPlaced (draft_of document) site
