-- What a plan keeps of a site.
use Rattle.std.specs.Prelude.{◌≡◌, ℕ, [], slice_index_or}
use Rattle.site_types.specs.declared.site.Site.{Site}
use Rattle.marker_table.specs.Table.{IsTableOf}
use Rattle.cause_effect.specs.Orders.{IsOrder}
use Rattle.cause_effect.specs.Requests.{outputs_of}
use Rattle.cause_effect.specs.Users.{AreUsersOf}
use Rattle.cause_effect.specs.declared.plan.Plan.{Plan}

-- a plan has the table of the site's markers, an order of them, the markers that depend on each fact and each
-- marker, and by the number of each panel its outputs
pub record IsPlanOf (site : Site) (plan : Plan) : Type 0 where
  pub table : IsTableOf site plan.table
  pub order : IsOrder site plan.order
  pub users : AreUsersOf site plan.order plan.users.sets
  pub outputs : (panel : ℕ) → slice_index_or plan.outputs panel [] ≡ outputs_of panel site.outputs
