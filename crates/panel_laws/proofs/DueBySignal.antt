-- Nothing is due without a signal.
use Rattle.std.proofs.Common.{◌≡◌, ℕ, zero, suc, ◌≤◌, ◌&&◌, ◌||◌, List, length, Option, Some, None, slice_get, inl, inr, Bool, true, refl, sym, ◌∙◌, subst, arith}
use Rattle.site_types.specs.declared.marker.Marker.{Marker as MarkerPlan}
use Rattle.site_types.specs.declared.output.Output.{Output}
use Rattle.site_types.specs.declared.retained.Retained.{Retained}
use Rattle.site_types.specs.declared.site.Site.{Site}
use Rattle.site_types.specs.declared.term.Term.{Term}
use Rattle.site_types.specs.declared.term.Term.TheVariants.{Zone, Manual, Fault, Marker}
use Rattle.site_types.specs.Done.{Done}
use Rattle.site_types.specs.Valid.{IsValid, IsMarker}
use Rattle.site_types.proofs.ValidSites.{marker_at}
use Rattle.coincidence_rules.specs.Places.{is_of, is_manual, on_partner, pairs_up}
use Rattle.panel_rules.specs.Moments.{Moment, tick_of}
use Rattle.panel_rules.specs.Markers.{Facts, holds, equation, solved}
use Rattle.panel_laws.proofs.Solutions.{one_holds}
use Rattle.panel_rules.specs.Outputs.{on_output, is_true_over, panel_of_output}
use Rattle.panel_rules.specs.Due.{CallPointSignals, Signals, TwoHeld, by_call_point, by_one, by_itself, by_two, by_pair}
use Rattle.panel_rules.specs.Due.{SignalsOut, by_signal, by_hand, by_second, IsDueAfter, own, by_way, IsDueOut}
use Rattle.panel_rules.specs.Due.{IsDueByHand}
use Rattle.panel_rules.specs.DueOutputs.{IsDueAsked, IsDueAskedByHand}
use Rattle.panel_rules.specs.OutputLaws.{HasSignalled, DueNeedsASignal, DueOutputNeedsASignal}
use Rattle.panel_rules.proofs.Bools.{either, either_left, either_right, parts}
use Rattle.panel_rules.proofs.Stays.{up_to_here}

pairs_of : (site : Site) (zone point : ℕ) (second : ℕ → Bool) → pairs_up site zone point second ≡ true
    → (is_of site zone point || on_partner site zone (λ other. is_of site other point)) ≡ true
pairs_of site zone point second h =
    elim (either (is_of site zone point && (second zone || on_partner site zone second)) (on_partner site zone (λ other. is_of site other point)
    && second zone) h) [
      | inl t ↦ either_left (is_of site zone point) (on_partner site zone (λ other. is_of site other point)) (parts (is_of site zone point) _ t).0
      | inr t ↦ either_right (is_of site zone point) (on_partner site zone (λ other. is_of site other point))
          (parts (on_partner site zone (λ other. is_of site other point)) _ t).0
    ]

module _ (site : Site) (kept : Retained) (done : List Done) (moments : List Moment) (some : 1 ≤ site.format) where
  abbrev of_it : (zone point : ℕ) → is_of site zone point ≡ true → (is_of site zone point || on_partner site zone (λ other. is_of site other point))
      ≡ true
  of_it zone point h = either_left (is_of site zone point) (on_partner site zone (λ other. is_of site other point)) h

  by_point : (zone settled : ℕ) → CallPointSignals site kept done moments zone (tick_of moments) settled → settled ≤ tick_of moments
      → HasSignalled site kept done moments zone
  by_point zone settled h l = record {
    point = h.point;
    tick = settled;
    begins = h.begins;
    past = l;
    of_zone = of_it zone h.point (parts (is_of site zone h.point) (is_manual site h.point) h.calls).0;
    signals = h.held settled (omega arith) (omega (arith, some));
  }

  -- one of the first of two points that signalled one after the other
  by_two_held : (zone one other first settled : ℕ) → TwoHeld site kept done moments one other first settled → settled ≤ tick_of moments
      → (is_of site zone one || on_partner site zone (λ z. is_of site z one)) ≡ true → HasSignalled site kept done moments zone
  by_two_held zone one other first settled h l of_zone =
      let f = h.follows in
      record {
        point = one;
        tick = first;
        begins = h.begins;
        past = omega (arith, f, l);
        of_zone = of_zone;
        signals = h.first_held first (omega arith) (omega (arith, some));
      }

  signalled : (zone settled : ℕ) → Signals site kept done moments zone (tick_of moments) settled → settled ≤ tick_of moments
      → HasSignalled site kept done moments zone
  signalled zone settled (by_call_point h) l = by_point zone settled h l
  signalled zone settled (by_one h) l =
      record {
        point = h.point;
        tick = settled;
        begins = h.begins;
        past = l;
        of_zone = of_it zone h.point h.of_zone;
        signals =
            h.held settled (omega arith) (omega (arith, some));
      }
  signalled zone settled (by_itself h) l =
      let s = h.settles in
      record {
        point = h.point;
        tick = h.first;
        begins = h.begins;
        past = omega (arith, s, l);
        of_zone = of_it zone h.point h.of_zone;
        signals =
            h.signals h.first (omega arith) (omega (arith, some));
      }
  signalled zone settled (by_two h) l =
      by_two_held zone h.first_point h.second_point h.first settled h.held l (of_it zone h.first_point h.first_of_zone)
  signalled zone settled (by_pair h) l =
      by_two_held zone h.first_point h.second_point h.first settled h.held l
      (pairs_of site zone h.first_point (λ other. is_of site other h.second_point) h.pairs)

  signalled_out : (zone settled : ℕ) → SignalsOut site kept done moments zone (tick_of moments) settled → settled ≤ tick_of moments
      → HasSignalled site kept done moments zone
  signalled_out zone settled (by_signal other h) l = signalled zone settled h l
  signalled_out zone settled (by_hand h) l = by_point zone settled h l
  signalled_out zone settled (by_second h) l =
      by_two_held zone h.first_point h.second_point h.first settled h.held l
      (pairs_of site zone h.first_point (λ other. is_of site other h.second_point) h.pairs)

  due_past : (zone panel settled : ℕ) → IsDueAfter site kept done moments zone panel settled → settled ≤ tick_of moments
  due_past zone panel settled (own same l) = omega (arith, l)
  due_past zone panel settled (by_way first last l k e joined) = omega (arith, l, k)

  pub out_signalled : (zone panel : ℕ) → IsDueOut site kept done moments zone panel → HasSignalled site kept done moments zone
  out_signalled zone panel h = signalled_out zone h.settled h.signal (due_past zone panel h.settled h.late)

  pub hand_signalled : (zone panel : ℕ) → IsDueByHand site kept done moments zone panel → HasSignalled site kept done moments zone
  hand_signalled zone panel h = by_point zone h.settled h.signal (due_past zone panel h.settled h.late)

pub due_needs : DueNeedsASignal
due_needs site kept done moments zone panel some h =
    signalled site kept done moments some zone h.settled h.signal (due_past site kept done moments some zone panel h.settled h.late)

-- ---- no marker is true over nothing

-- some fact is true
pub data SomeFact (facts : Facts) : Type 0 where
  a_zone : (zone : ℕ) → facts.released zone ≡ true → SomeFact facts
  a_hand : (zone : ℕ) → facts.by_hand zone ≡ true → SomeFact facts
  a_fault : (panel : ℕ) → facts.faulty panel ≡ true → SomeFact facts

-- a term that holds is such a fact, or a marker that is true
term_fact : (facts : Facts) (values : ℕ → Bool) (term : Term) → ((marker : ℕ) → values marker ≡ true → SomeFact facts)
    → holds facts values term ≡ true → SomeFact facts
term_fact facts values (Zone zone) deep h = a_zone zone h
term_fact facts values (Manual zone) deep h = a_hand zone h
term_fact facts values (Fault panel) deep h = a_fault panel h
term_fact facts values (Marker marker) deep h = deep marker h

by_marker : (facts : Facts) (values : ℕ → Bool) (marker : MarkerPlan) → IsMarker marker → ((m : ℕ) → values m ≡ true → SomeFact facts)
    → equation facts values (Some marker) ≡ true → SomeFact facts
by_marker facts values marker valid deep h =
    let w = one_holds marker.combine (holds facts values) marker.terms valid.terms.0 valid.combine h in term_fact facts values w.item deep w.passes

some_fact : (site : Site) → IsValid site → (facts : Facts) (depth marker : ℕ) → solved site facts depth marker ≡ true → SomeFact facts
some_fact site valid facts zero marker h = absurd cc
some_fact site valid facts (suc depth) marker h = go (slice_get site.markers marker) refl (λ m t. some_fact site valid facts depth m t) h
  where
    go : (o : Option MarkerPlan) → slice_get site.markers marker ≡ o → ((m : ℕ) → solved site facts depth m ≡ true → SomeFact facts)
        → equation facts (solved site facts depth) o ≡ true → SomeFact facts
    go None is deep h = absurd cc
    go (Some plan) is deep h = by_marker facts (solved site facts depth) plan (marker_at site valid marker plan is) deep h

pub fact_of_output : (site : Site) → IsValid site → (facts : Facts) (output : ℕ) → is_true_over site output facts ≡ true → SomeFact facts
fact_of_output site valid facts output h = go (slice_get site.outputs output) h
  where
    go : (o : Option Output) → on_output (λ x. solved site facts (length site.markers) x.marker) o ≡ true → SomeFact facts
    go None h = absurd cc
    go (Some plan) h = some_fact site valid facts (length site.markers) plan.marker h

module _ (site : Site) (kept : Retained) (done : List Done) (moments : List Moment) (valid : IsValid site) where
  asked_signalled : (output : ℕ) → IsDueAsked site kept done moments output → (zone : ℕ) × HasSignalled site kept done moments zone
  asked_signalled output h = go (fact_of_output site valid h.facts output h.asks)
    where
      go : SomeFact h.facts → (zone : ℕ) × HasSignalled site kept done moments zone
      go (a_zone zone t) =
          (zone, out_signalled site kept done moments valid.forms.format.0 zone (panel_of_output site output) (h.due.released zone t))
      go (a_hand zone t) =
          (zone, hand_signalled site kept done moments valid.forms.format.0 zone (panel_of_output site output) (h.due.by_hand zone t))
      go (a_fault panel t) = absurd (let e = h.due.faults panel in let x = sym e ∙ t in cc)

  hand_asked_signalled : (output : ℕ) → IsDueAskedByHand site kept done moments output → (zone : ℕ) × HasSignalled site kept done moments zone
  hand_asked_signalled output h = go (fact_of_output site valid h.facts output h.asks)
    where
      go : SomeFact h.facts → (zone : ℕ) × HasSignalled site kept done moments zone
      go (a_zone zone t) =
          (zone, hand_signalled site kept done moments valid.forms.format.0 zone (panel_of_output site output) (h.due.released zone t))
      go (a_hand zone t) =
          (zone, hand_signalled site kept done moments valid.forms.format.0 zone (panel_of_output site output) (h.due.by_hand zone t))
      go (a_fault panel t) = absurd (let e = h.due.faults panel in let x = sym e ∙ t in cc)

pub due_output_needs : DueOutputNeedsASignal
due_output_needs site kept done moments output valid h =
    elim h.asked [
      | inl hand ↦ hand_asked_signalled site kept done moments valid output hand
      | inr through ↦
          asked_signalled site kept done moments valid output
          (subst (λ m. IsDueAsked site kept done m output) (up_to_here moments) (through.each (tick_of moments) (omega arith) (omega arith)))
    ]
