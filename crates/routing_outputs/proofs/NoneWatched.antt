-- A panel without an output that waits for confirmations: a turn changes nothing.
use Rattle.std.proofs.Common.{◌≡◌, ◌∙◌, ◌+◌, ◌<◌, ◌==◌, ◌&&◌, ℕ, Bool, true, false, List, ◌∷◌, length, map, Some, None, if◌then◌else◌}
use Rattle.std.proofs.Common.{refl, sym, ap}
use Rattle.std.specs.List.{list_any}
use Rattle.std.proofs.lemmas.List.{nil_from_length}
use Rattle.tick_units.specs.declared.tick.Tick.{Tick}
use Rattle.tick_units.proofs.Listed.{any_at, map_found, passes}
use Rattle.site_types.specs.declared.site.Site.{Site}
use Rattle.site_types.specs.Limits.{output_bits}
use Rattle.site_types.proofs.Masks.{mask_same}
use Rattle.routing_outputs.specs.declared.routing.Routing.{Routing}
use Rattle.routing_outputs.specs.declared.watched_output.WatchedOutput.{WatchedOutput}
use Rattle.routing_outputs.specs.Confirmations.{Call, Turned, is_watched}
use Rattle.routing_outputs.specs.Stands.{StandsFor, since, watched_at}
use Rattle.routing_outputs.specs.WatchedOutputs.{turned_by}
use Rattle.routing_outputs.proofs.Confirming.{confirmed_at, late_at, on_at}
use Rattle.routing_outputs.proofs.Runs.{output_place, output_turned}

module _ (site : Site) (panel limit : ℕ) (calls : List Call) (routing : Routing) (few : length routing.outputs.items ≡ 0)
    (stands : StandsFor site panel limit calls routing) where
  none_waits : (k : ℕ) → k < 32 → is_watched site panel (k + 1) ≡ false
  unfolding output_bits
  none_waits k small =
      sym (there (is_watched site panel (k + 1)))
      ∙ sym (any_at (watched_at site panel calls) (λ output. output.place) (λ output. true) (λ j output e. output_place site panel calls j output e) k 32 small)
      ∙ ap (list_any (λ (output : WatchedOutput). (output.place == k) && true)) (sym stands.outputs ∙ nil_from_length routing.outputs.items few)
    where
      there : (b : Bool) → passes (λ (output : WatchedOutput). true) (if b then Some (record { place = k; since = since (k + 1) calls }) else None) ≡ b
      there true = refl
      there false = refl

  same_bit : (k : ℕ) → k < 32 → (a b : Bool) → (is_watched site panel (k + 1) && a) ≡ (is_watched site panel (k + 1) && b)
  same_bit k small a b = let none = none_waits k small in ap (λ w. w && a) none ∙ sym (ap (λ w. w && b) none)

  pub none_turned : (now : Tick) (on : ℕ) → StandsFor site panel limit (Turned now.0 on ∷ calls) routing
  none_turned now on =
      let after = Turned now.0 on ∷ calls in
      let none = nil_from_length routing.outputs.items few in
      record {
        kept = stands.kept;
        outputs =
            none
            ∙ ap (map (turned_by now on)) (sym none ∙ stands.outputs)
            ∙ map_found (turned_by now on) (watched_at site panel calls) (watched_at site panel after) output_bits (output_turned site panel calls now on);
        watched = stands.watched;
        on = stands.on ∙ mask_same 32 (on_at site panel limit calls) (on_at site panel limit after) (λ k small. same_bit k small _ _);
        confirmed =
            stands.confirmed
            ∙ mask_same 32 (confirmed_at site panel limit calls) (confirmed_at site panel limit after) (λ k small. same_bit k small _ _);
        late = stands.late ∙ mask_same 32 (late_at site panel limit calls) (late_at site panel limit after) (λ k small. same_bit k small _ _);
      }
