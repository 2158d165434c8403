-- What the reader of drafts finds is what is wrong in the document.
use Rattle.std.proofs.Common.{◌≡◌, ℕ, List, Option, Some, None, Result, Ok, Err, IfOk, IfErr, ap, sym, subst, ◌∙◌}
use Rattle.toml.specs.Data.{Members}
use Rattle.site_types.specs.declared.site.Site.{Site}
use Rattle.site_document.specs.declared.draft.Draft.{Draft}
use Rattle.site_document.specs.declared.refusal.SiteRefusal.{SiteRefusal}
use Rattle.site_document.specs.declared.refusal.SiteRefusal.TheVariants as code
use Rattle.site_document.specs.Documents.{IsAccepted, IsFoundBy, IsRefusedBy}
use Rattle.site_document.specs.Drafts.{draft_of}
use Rattle.site_document.specs.Refusals.{Refusal, or_later, IsSaid, Tells}
use Rattle.site_document.specs.Walk.{finding}
use Rattle.site_document.proofs.Refused.{refused_by}
use Rattle.site_config.specs.Sites.{IsPlaced, IsSpelled, draft_finding, site_finding}

earlier : (o later : Option Refusal) (r : Refusal) → o ≡ Some r → or_later o later ≡ Some r
earlier o later r e = rw e

found_first : (doc : Members) (r : Refusal) → finding doc ≡ Some r → site_finding doc ≡ Some r
unfolding site_finding
found_first doc r e = earlier (finding doc) (draft_finding (draft_of doc)) r e

found_so : (bytes : List ℕ) (r : Refusal) → IsFoundBy finding bytes r → IsFoundBy site_finding bytes r
found_so bytes r f = record { short = f.short; document = f.document; spelled = f.spelled; found = found_first f.document r f.found }

pub refused_so : (bytes : List ℕ) (e : SiteRefusal) → IsRefusedBy finding bytes e → IsRefusedBy site_finding bytes e
refused_so bytes code.NotToml h = h
refused_so bytes (code.Missing key) h = found_so bytes _ h
refused_so bytes (code.WrongKind key) h = found_so bytes _ h
refused_so bytes (code.Unknown key) h = found_so bytes _ h
refused_so bytes (code.OutOfRange key number) h = found_so bytes _ h
refused_so bytes (code.Twice name) h = found_so bytes _ h
refused_so bytes (code.NoSuch name) h = found_so bytes _ h
refused_so bytes (code.SectionCrossesZones panel line place) h = found_so bytes _ h
refused_so bytes (code.PartnerNotMutual label) h = found_so bytes _ h
refused_so bytes code.TooLong h = h
refused_so bytes code.NoMemory h = h

-- where the keys and values are right, what is wrong is what is wrong in the draft
pub left : (doc : Members) → finding doc ≡ None → draft_finding (draft_of doc) ≡ site_finding doc
unfolding site_finding
left doc e = rw e

pub accepted : (r : Result Site SiteRefusal) (bytes : List ℕ) (draft : Draft) (doc : Members) → IsAccepted finding bytes doc → draft ≡ draft_of doc
    → Tells r (draft_finding draft) → IfOk r (IsPlaced draft) → IfOk r (IsSpelled bytes)
accepted (Ok site) bytes draft doc a e told placed = record {
  document = doc;
  accepted = record { short = a.short; spelled = a.spelled; clean = sym (left doc a.clean) ∙ ap draft_finding (sym e) ∙ told };
  placed = let P : Draft → Type 0 = λ d. IsPlaced d site in subst P e placed;
}
accepted (Err refusal) bytes draft doc a e told placed = tt

pub refused : (r : Result Site SiteRefusal) (bytes : List ℕ) (draft : Draft) (doc : Members) → IsAccepted finding bytes doc → draft ≡ draft_of doc
    → Tells r (draft_finding draft) → IfErr r (IsRefusedBy site_finding bytes)
refused (Ok site) bytes draft doc a e told = tt
refused (Err refusal) bytes draft doc a e told =
    let P : Option Refusal → Type 0 = λ o. IsSaid refusal o in
    refused_by site_finding bytes doc refusal a.short a.spelled (subst P (ap draft_finding e ∙ left doc a.clean) told)
