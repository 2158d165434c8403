-- names and numbers that a draft claims, each once, and the lists and maps of them
pub mod Claims
pub mod NameMaps
pub mod Held
pub mod NamedList
-- what may be wrong between parts: a name of nothing, partners not mutual, a section across zones
pub mod NoSuch
pub mod Partners
pub mod Crossing
-- the site that a draft or a document spells
pub mod Placing
pub mod Sites
-- passed on: the document that a site file spells, and its refusals
pub use Rattle.site_document.specs.Documents
pub use Rattle.site_document.specs.Refusals
-- passed on: when a site is valid, with its limits, numbers of ticks, sections, and the forms of names
pub use Rattle.site_types.specs.Valid
pub use Rattle.site_types.specs.Limits
pub use Rattle.site_types.specs.Profile
pub use Rattle.site_types.specs.Sections
pub use Rattle.site_types.specs.Things
pub use Rattle.site_types.specs.Names
pub use Rattle.site_types.specs.Numbers
pub use Rattle.site_types.specs.Digest
-- passed on: masks, events, and what operations done leave in force and kept
pub use Rattle.site_types.specs.Bits
pub use Rattle.site_types.specs.Events
pub use Rattle.site_types.specs.Done
pub use Rattle.site_types.specs.Changes
pub use Rattle.site_types.specs.Carry
-- passed on: a site, its zones, points, loops and supplies
pub use Rattle.site_types.specs.declared.site.Site
pub use Rattle.site_types.specs.declared.zone.Zone
pub use Rattle.site_types.specs.declared.rule.Rule
pub use Rattle.site_types.specs.declared.point.Point
pub use Rattle.site_types.specs.declared.loop_plan.LoopPlan
pub use Rattle.site_types.specs.declared.supply_kind.SupplyKind
pub use Rattle.site_types.specs.declared.waits.Waits
-- passed on: markers with their terms, outputs, and the things that have names
pub use Rattle.site_types.specs.declared.marker.Marker
pub use Rattle.site_types.specs.declared.term.Term
pub use Rattle.site_types.specs.declared.combine.Combine
pub use Rattle.site_types.specs.declared.output.Output
pub use Rattle.site_types.specs.declared.output_kind.OutputKind
pub use Rattle.site_types.specs.declared.named.Named
pub use Rattle.site_types.specs.declared.named.Thing
-- passed on: what befalls a site, what its points answer, and what is asked of it
pub use Rattle.site_types.specs.declared.event.Event
pub use Rattle.site_types.specs.declared.point_state.PointState
pub use Rattle.site_types.specs.declared.piece_state.PieceState
pub use Rattle.site_types.specs.declared.answer.Answer
pub use Rattle.site_types.specs.declared.heard.Heard
pub use Rattle.site_types.specs.declared.operation.Operation
pub use Rattle.site_types.specs.declared.item.Item
-- passed on: what is kept over a power cut, told to other panels, asked of outputs, and shown
pub use Rattle.site_types.specs.declared.retained.Retained
pub use Rattle.site_types.specs.declared.change.Change
pub use Rattle.site_types.specs.declared.word.Word
pub use Rattle.site_types.specs.declared.fault_set.FaultSet
pub use Rattle.site_types.specs.declared.point_set.PointSet
pub use Rattle.site_types.specs.declared.requests.Requests
pub use Rattle.site_types.specs.declared.buzzer.Buzzer
