use Rattle.std.proofs.Common.{◌≡◌, false, take}
use Rattle.panel_rules.specs.Operations.{after_desk, requests_in}
use Rattle.plain_operations.specs.Desks.{all_requests, outcomes_of}
use Rattle.plain_operations.proofs.outcomes.Outcomes.desk.Given as goal

abbrev pub invariant-loop-request : goal.invariant-loop-request
invariant-loop-request l = record {
  became : outcomes_of l.self ≡ after_desk l.site l.kept (requests_in l.panel l.tick.0 (all_requests (take l.request-index l.requests)))
      (outcomes_of l.initial.self);
  same : l.changed ≡ false → l.self.done.items ≡ l.initial.self.done.items;
}
