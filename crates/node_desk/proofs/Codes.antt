-- Of the code of an operation its bytes alone count.
use Rattle.std.proofs.Common.{◌≡◌, ℕ, Bool, true, false, List, ◌∷◌, length, Option, not, nat_le, if◌then◌else◌, refl, subst}
use Rattle.std.proofs.Math.Path.{fun_ext}
use Rattle.std.specs.Prelude.{option_map}
use Rattle.arrayvec.specs.ArrayString.{ArrayString}
use Rattle.site_types.specs.declared.event.Event.{Event}
use Rattle.site_types.specs.declared.event.Event.TheVariants.{Point, Cable, Supply, Link, Confirmed, Op}
use Rattle.site_types.specs.declared.operation.Operation.{Operation}
use Rattle.site_types.specs.declared.retained.Retained.{Retained}
use Rattle.site_types.specs.declared.site.Site.{Site}
use Rattle.site_types.specs.declared.word.Word.{Word}
use Rattle.site_types.specs.Done.{Done}
use Rattle.site_types.specs.Profile.{silent_of}
use Rattle.hold_calls.specs.Told.{Told}
use Rattle.kept_words.specs.Arrivals.{Arrival, Made, counts_as_down, word_kept}
use Rattle.kept_words.specs.Stands.{KeepsArrived}
use Rattle.record_lines.specs.Events.{event_view, label_view}
use Rattle.node_rules.specs.Handed.{handed_facts, own_kept, own_tells, words_held}
use Rattle.node_rules.specs.Histories.{Befell, NodeMoment, befallen, frames_in, part_until}
use Rattle.panel_node.specs.Stands.{NodeStandsFor}
use Rattle.panel_node.specs.declared.node.Node.{Node}
use Rattle.panel_parts.specs.Applied.{applied}
use Rattle.panel_parts.specs.Stands.{PanelStands}
use Rattle.panel_parts.specs.declared.parts.Parts.{Parts}
use Rattle.panel_rules.specs.Moments.{Moment, Happened, tick_of}
use Rattle.site_run.proofs.Codes.{desk_viewed, parts_viewed as same_parts}

module _ (site : Site) (kept : Retained) (panel : ℕ) (history : List NodeMoment) (at : ℕ) (operation : Operation) where
  abbrev with_code : Option ArrayString → List NodeMoment
  with_code code = Befell (Happened (Op at code operation)) ∷ history

  -- ---- the frames that had come before each turn

  abbrev arrivals_in : List NodeMoment → ℕ → List Arrival
  arrivals_in hs count = frames_in (part_until count hs)

  frames_same : (one other : Option ArrayString) (b : Bool) (more : List NodeMoment)
      → frames_in (if b then with_code one else more) ≡ frames_in (if b then with_code other else more)
  frames_same one other true more = refl
  frames_same one other false more = refl

  arrivals_same : (one other : Option ArrayString) → arrivals_in (with_code one) ≡ arrivals_in (with_code other)
  arrivals_same one other =
      fun_ext (λ count. frames_same one other (nat_le (length (befallen (with_code one))) count) (part_until count history))

  -- ---- what turns are told by them

  module _ (done : List Done) where
    abbrev words_from : (ℕ → List Arrival) → List Moment → ℕ → Word
    words_from arrivals before source = word_kept panel source (arrivals (length before))

    abbrev up_from : (ℕ → List Arrival) → List Moment → ℕ → Bool
    up_from arrivals before link = not (counts_as_down site.panels panel (arrivals (length before)) (tick_of before) (silent_of site.format) link)

    abbrev tells_from : (ℕ → List Arrival) → List Moment → Bool
    tells_from arrivals = own_tells site kept done panel (words_from arrivals) (up_from arrivals)

    abbrev told_from : (ℕ → List Arrival) → Told
    told_from arrivals =
        record {
          facts = handed_facts site kept done panel (words_from arrivals) (up_from arrivals);
          stamps = λ before source. (words_held site kept done panel (words_from arrivals) (up_from arrivals) (tells_from arrivals) before source).stamp.0;
          up = up_from arrivals;
        }

    abbrev arrived_from : (ℕ → List Arrival) → List Arrival
    arrived_from arrivals =
        Made (own_kept site kept done panel (words_from arrivals) (up_from arrivals) (tells_from arrivals) (befallen history)) ∷ frames_in history

    parts_viewed : (told : Told) (parts : Parts) (one other : Option ArrayString)
        → PanelStands site kept done told panel (befallen (with_code one)) parts → PanelStands site kept done told panel (befallen (with_code other)) parts
    parts_viewed told parts one other h = same_parts site kept at operation (befallen history) one other done told panel parts h

  code_viewed : (code : Option ArrayString) (node : Node) → NodeStandsFor site panel kept (with_code code) node
      → NodeStandsFor site panel kept (with_code (option_map label_view code)) node
  code_viewed code node h =
      let viewed = option_map label_view code in
      let done = applied site kept (befallen (with_code code)) in
      let same = arrivals_same code viewed in
      record {
        valid = h.valid;
        same = h.same;
        own = h.own;
        plan = h.plan;
        tick = h.tick;
        parts =
            subst (λ arrivals. PanelStands site kept done (told_from done arrivals) panel (befallen (with_code viewed)) node.parts) same
            (parts_viewed done (told_from done (arrivals_in (with_code code))) node.parts code viewed h.parts);
        words = subst (λ arrivals. KeepsArrived site.panels panel (arrived_from done arrivals) node.words) same h.words;
        events = (h.events.0, h.events.1);
        own_events = (h.own_events.0, h.own_events.1);
        frames = h.frames;
        desk = desk_viewed site kept at operation (befallen history) code node.desk h.desk;
        settings = h.settings;
        sized = h.sized;
        things = h.things;
        counts = record { counted = h.counts.counted; counters = h.counts.counters };
      }

-- the panel stands for the history with the event as a record has it
pub node_for_view : (site : Site) (panel : ℕ) (kept : Retained) (event : Event) (history : List NodeMoment) (node : Node)
    → NodeStandsFor site panel kept (Befell (Happened event) ∷ history) node
    → NodeStandsFor site panel kept (Befell (Happened (event_view event)) ∷ history) node
node_for_view site panel kept (Point point state) history node h = h
node_for_view site panel kept (Cable at line piece state) history node h = h
node_for_view site panel kept (Supply at kind bad) history node h = h
node_for_view site panel kept (Link link up) history node h = h
node_for_view site panel kept (Confirmed output) history node h = h
node_for_view site panel kept (Op at code operation) history node h = code_viewed site kept panel history at operation code node h
