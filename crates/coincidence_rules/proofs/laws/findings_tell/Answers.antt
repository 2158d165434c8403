use Rattle.coincidence_rules.proofs.FoundFindings.{confirmed_tells, released_tells, manual_tells, counted_tells}
use Rattle.coincidence_rules.proofs.ValidWired.{wired_of}
use Rattle.coincidence_rules.proofs.laws.findings_tell.Goals as goal

pub returns : goal.returns
returns c = record {
  confirmed =
      λ site kept done answers place zone stamps valid is order. confirmed_tells site kept done answers place zone stamps (wired_of site valid) is
      order;
  released = λ site kept done answers place zone stamps valid is order. released_tells site kept done answers place zone stamps (wired_of site valid)
      is order;
  manual = λ site kept done answers place zone stamps valid is. manual_tells site kept done answers place zone stamps (wired_of site valid) is;
  counted = λ site kept done answers place zone stamps valid is. counted_tells site kept done answers place zone stamps (wired_of site valid) is;
}
