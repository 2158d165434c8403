-- How many keys an object has.
use Rattle.std.proofs.Common.{◌≡◌, ◌∙◌, ℕ, List, Some, length, ap, sym}
use Rattle.std.specs.Prelude.{◌==◌}
use Rattle.serde_json.specs.Data.{Data}
use Rattle.serde_json.specs.Find.{as_object}
use Rattle.serde_json.specs.View.{members_view}
use Rattle.serde_json.proofs.Views.{Entry, members_len-members_view}
use Rattle.desk_bodies.specs.Bodies.{counts_members, has_members}

pub members_counted : (count : ℕ) (value : Data) (entries : List Entry) (n : ℕ) → as_object value ≡ Some (members_view entries) → n ≡ length entries
    → (n == count) ≡ has_members count value
members_counted count value entries n is size =
    sym (ap (counts_members count) is ∙ ap (λ (m : ℕ). m == count) (members_len-members_view entries ∙ sym size))
