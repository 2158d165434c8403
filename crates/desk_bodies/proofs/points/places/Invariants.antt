use Rattle.std.proofs.Common.{◌≡◌, drop}
use Rattle.serde_json.specs.View.{items_view}
use Rattle.desk_bodies.specs.Bodies.{places_of}
use Rattle.desk_bodies.proofs.PlaceLists.{placed}
use Rattle.desk_bodies.proofs.points.places.Given as goal

abbrev pub invariant-loop-name : goal.invariant-loop-name
invariant-loop-name l =
    places_of l.site (items_view l.names) ≡ placed l.places.items (places_of l.site (items_view (drop l.name-index l.names)))
