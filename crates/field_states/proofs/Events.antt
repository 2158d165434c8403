-- What an event makes of what is kept.
use Rattle.std.proofs.Common.{◌≡◌, ℕ, Bool, Vec, List, ◌∷◌, set, length, get_or, inl, inr, sym, ◌∙◌, ap, subst, arith, get_or-set_other}
use Rattle.std.proofs.Math.ListN.{length-set}
use Rattle.std.proofs.lemmas.Bool.Decides.{eqb_tells}
use Rattle.std.specs.Vec.{with_items}
use Rattle.std.proofs.lemmas.Grind.{get_or-set_at}
use Rattle.std.proofs.lemmas.List.{with_items_is}
use Rattle.site_types.specs.declared.event.Event.{Event}
use Rattle.site_types.specs.declared.event.Event.TheVariants.{Point, Cable, Supply, Link, Confirmed, Op}
use Rattle.site_types.specs.declared.loop_plan.LoopPlan.{LoopPlan}
use Rattle.site_types.specs.declared.operation.Operation.{Operation}
use Rattle.site_types.specs.declared.piece_state.PieceState.{PieceState}
use Rattle.site_types.specs.declared.point_state.PointState.{PointState}
use Rattle.site_types.specs.declared.point_state.PointState.TheVariants.{Quiet}
use Rattle.site_types.specs.declared.site.Site.{Site}
use Rattle.isolators.specs.declared.loop_line.LoopLine.{LoopLine}
use Rattle.panel_rules.specs.Moments.{Moment, Happened}
use Rattle.field_states.specs.declared.field_states.FieldStates.{FieldStates}
use Rattle.field_states.specs.Field.{FieldStands, StatesStand}
use Rattle.field_states.specs.Lines.{LinesStand}

-- an event is what it is
pub event_is : (site : Site) (before : List Moment) (field : FieldStates) (one other : Event) → one ≡ other
    → FieldStands site (Happened other ∷ before) field → FieldStands site (Happened one ∷ before) field
event_is site before field one other same = subst (λ e. FieldStands site (Happened e ∷ before) field) (sym same)

pub state_told : (count : ℕ) (before : List Moment) (states told : List PointState) (point : ℕ) (state : PointState) → told ≡ set states point state
    → StatesStand count before states → StatesStand count (Happened (Point point state) ∷ before) told
state_told count before states told point state is stands = record {
  size = ap length is ∙ length-set states point state ∙ stands.size;
  each = λ k less.
      ap (λ xs. get_or xs k Quiet) is
      ∙ elim (eqb_tells point k) [
        | inl h ↦
            (let size = stands.size in
            let same = h.1 in
            rw h.0 (get_or-set_at states point k state Quiet (sym same) (omega (arith, size, less, same))))
        | inr h ↦ rw h.0 (get_or-set_other states point k state Quiet (λ e. h.1 (sym e)) ∙ stands.each k less)
      ];
}

pub states_stay : (count : ℕ) (before : List Moment) (states : List PointState) (panel line piece : ℕ) (state : PieceState)
    → StatesStand count before states → StatesStand count (Happened (Cable panel line piece state) ∷ before) states
states_stay count before states panel line piece state stands = record { size = stands.size; each = stands.each }

pub lines_stay : (plans : List LoopPlan) (before : List Moment) (lines : List LoopLine) (point : ℕ) (state : PointState)
    → LinesStand plans before lines → LinesStand plans (Happened (Point point state) ∷ before) lines
lines_stay plans before lines point state stands = record { size = stands.size; each = stands.each }

module _ (site : Site) (before : List Moment) (field : FieldStates) (stands : FieldStands site before field) where
  pub supply_told : (panel : ℕ) (kind : _) (bad : Bool) → FieldStands site (Happened (Supply panel kind bad) ∷ before) field
  supply_told panel kind bad = record {
    states = record { size = stands.states.size; each = stands.states.each };
    lines = record { size = stands.lines.size; each = stands.lines.each };
  }

  pub link_told : (link : ℕ) (up : Bool) → FieldStands site (Happened (Link link up) ∷ before) field
  link_told link up = record {
    states = record { size = stands.states.size; each = stands.states.each };
    lines = record { size = stands.lines.size; each = stands.lines.each };
  }

  pub confirmed_told : (output : ℕ) → FieldStands site (Happened (Confirmed output) ∷ before) field
  confirmed_told output = record {
    states = record { size = stands.states.size; each = stands.states.each };
    lines = record { size = stands.lines.size; each = stands.lines.each };
  }

  pub op_told : (panel : ℕ) (code : _) (operation : Operation) → FieldStands site (Happened (Op panel code operation) ∷ before) field
  op_told panel code operation = record {
    states = record { size = stands.states.size; each = stands.states.each };
    lines = record { size = stands.lines.size; each = stands.lines.each };
  }

-- lists that were written through a slice
written : {X Z : Type 0} (items : Vec X Z) (told : List X) → length told ≡ length items.items → (with_items items told).items ≡ told
written items told same = let as_long : length told ≡ items.len = omega (arith, same, items.ok) in with_items_is items told as_long

pub states_put : {Z : Type 0} (count : ℕ) (before later : List Moment) (states : Vec PointState Z) (told : List PointState)
    → StatesStand count before states.items → StatesStand count later told → StatesStand count later (with_items states told).items
states_put count before later states told was now =
    let a = was.size in
    let b = now.size in
    subst (StatesStand count later) (sym (written states told (omega (arith, a, b)))) now

pub lines_put : {Z : Type 0} (plans : List LoopPlan) (before later : List Moment) (lines : Vec LoopLine Z) (told : List LoopLine)
    → LinesStand plans before lines.items → LinesStand plans later told → LinesStand plans later (with_items lines told).items
lines_put plans before later lines told was now =
    let a = was.size in
    let b = now.size in
    subst (LinesStand plans later) (sym (written lines told (omega (arith, a, b)))) now
