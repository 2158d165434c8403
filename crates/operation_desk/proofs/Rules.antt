-- The answer at Desk's turn, from what waits, what was done in the tick and the settings in force.
use Rattle.std.proofs.Common.{◌≡◌, ℕ, ◌<◌, ◌&&◌, ◌||◌, Bool, true, false, List, [], ◌∷◌, Some, None, inl, inr}
use Rattle.std.proofs.Common.{if◌then◌else◌, refl, sym, ◌∙◌, ap, subst, arith}
use Rattle.std.specs.Prelude.{nat_le, nat_lt}
use Rattle.std.specs.List.{AllByRecursion, list_any}
use Rattle.std.proofs.lemmas.Bool.Decides.{leb_tells}
use Rattle.site_types.specs.declared.operation.Operation.{Operation}
use Rattle.site_types.specs.declared.operation.Operation.TheVariants.{Mute, Override, Silence, Resound, Reset, Cancel}
use Rattle.site_types.specs.declared.operation.Operation.TheVariants.{Disable, Enable, Test, Untest, Delays, Clear}
use Rattle.site_types.specs.declared.item.Item.{Item}
use Rattle.site_types.specs.declared.item.Item.TheVariants.{Point, Zone, Output}
use Rattle.site_types.specs.declared.retained.Retained.{Retained}
use Rattle.site_types.specs.declared.site.Site.{Site}
use Rattle.site_types.specs.Changes.{IsPanelNumber}
use Rattle.site_types.specs.Done.{Done, Setting, PointOff, ZoneOff, OutputOff, InTest, DelaysOff, Counter, IsSetting}
use Rattle.site_types.specs.Done.{is_on, is_setting, item_off, operation_setting, value_set}
use Rattle.site_types.specs.Limits.{most_operations}
use Rattle.access_levels.specs.Levels.{needed_by}
use Rattle.face_text.specs.Faces.{same_truth}
use Rattle.panel_rules.specs.Operations.{Operations, Request as RequestOf, Waiting, Already, Busy, Denied, desk_reply}
use Rattle.panel_rules.specs.Operations.{is_unsettled, setting_asked, setting_reply, stands_so}
use Rattle.operation_desk.specs.declared.done_operation.DoneOperation.{DoneOperation}
use Rattle.operation_desk.specs.declared.request.Request.{Request}
use Rattle.operation_desk.specs.Replies.{AreInForce, TellsOpen, has_value, waits_or_done}
use Rattle.operation_desk.specs.Requests.{with_done, done_from, request_from, requests_from}

-- ---- what waits or was done in the tick

waits_is : (setting : Setting) (waiting : List Request)
    → list_any (λ (r : RequestOf). is_setting setting (setting_asked r)) (requests_from waiting)
    ≡ list_any (λ (r : Request). is_setting setting (operation_setting r.panel r.operation)) waiting
waits_is setting [] = refl
waits_is setting (r ∷ waiting) = ap (λ b. is_setting setting (operation_setting r.panel r.operation) || b) (waits_is setting waiting)

or_swap : (a b c : Bool) → (a || (b || c)) ≡ ((b || a) || c)
or_swap true true c = refl
or_swap true false c = refl
or_swap false true c = refl
or_swap false false c = refl

or_none : (b : Bool) → (b || false) ≡ b
or_none true = refl
or_none false = refl

and_true : (b : Bool) → (b && true) ≡ b
and_true true = refl
and_true false = refl

module _ (setting : Setting) (tick : ℕ) where
  abbrev is_fresh_on : Done → Bool
  is_fresh_on d = is_on setting d && nat_le tick d.tick

  abbrev is_on_it : DoneOperation → Bool
  is_on_it d = is_setting setting (operation_setting d.panel d.operation)

  at_once : nat_le tick tick ≡ true
  at_once = elim (leb_tells tick tick) [ inl h ↦ h.0 | inr h ↦ (let l = h.1 in absurd (omega (arith, l))) ]

  fresh_is : (d : DoneOperation) → is_fresh_on (done_from tick d) ≡ is_on_it d
  fresh_is d = ap (λ b. is_on_it d && b) at_once ∙ and_true (is_on_it d)

  done_is : (done : List DoneOperation) (older : List Done)
      → list_any is_fresh_on (with_done tick done older) ≡ (list_any is_on_it done || list_any is_fresh_on older)
  done_is [] older = refl
  done_is (d ∷ done) older =
      done_is done (done_from tick d ∷ older) ∙ ap (λ b. list_any is_on_it done || (b || list_any is_fresh_on older)) (fresh_is d)
      ∙ or_swap (list_any is_on_it done) (is_on_it d) (list_any is_fresh_on older)

  none_older : (older : List Done) → AllByRecursion (λ (d : Done). d.tick < tick) older → list_any is_fresh_on older ≡ false
  none_older [] all = refl
  none_older (d ∷ older) all = ap (λ b. b || list_any is_fresh_on older) (not_fresh (nat_le tick d.tick) refl) ∙ none_older older all.1
    where
      not_fresh : (b : Bool) → nat_le tick d.tick ≡ b → (is_on setting d && b) ≡ false
      not_fresh true e = elim (leb_tells tick d.tick) [
        | inl h ↦ (let l = h.1 in let m = all.0 in absurd (omega (arith, l, m)))
        | inr h ↦ (let x : true ≡ false = sym e ∙ h.0 in absurd cc)
      ]
      not_fresh false e = shut (is_on setting d)
        where
          shut : (a : Bool) → (a && false) ≡ false
          shut true = refl
          shut false = refl

  pub unsettled_is : (so_far : Operations) (waiting : List Request) (done : List DoneOperation) → TellsOpen tick so_far waiting done
      → is_unsettled setting tick so_far ≡ waits_or_done setting waiting done
  unsettled_is so_far waiting done h =
      let one = ap (list_any (λ (r : RequestOf). is_setting setting (setting_asked r))) (sym h.waiting_is) ∙ waits_is setting waiting in
      let two =
      ap (list_any is_fresh_on) h.done_is ∙ done_is done h.older ∙ ap (λ b. list_any is_on_it done || b) (none_older h.older h.earlier)
      ∙ or_none (list_any is_on_it done) in
      ap (λ b. b || list_any is_fresh_on so_far.done) one
      ∙ ap (λ b. list_any (λ (r : Request). is_setting setting (operation_setting r.panel r.operation)) waiting || b) two

-- ---- the settings in force

pub stands_is : (site : Site) (kept settings : Retained) (setting : Setting) (tick : ℕ) (value : Bool) (done : List Done) → IsSetting setting
    → AreInForce site kept tick done settings → stands_so site kept setting tick value done ≡ has_value site settings setting value
stands_is site kept settings (Counter panel) tick value done is h = refl
stands_is site kept settings (PointOff point) tick value done is h = ap (λ b. same_truth b value) (sym (h (PointOff point) is))
stands_is site kept settings (ZoneOff zone) tick value done is h = ap (λ b. same_truth b value) (sym (h (ZoneOff zone) is))
stands_is site kept settings (OutputOff output) tick value done is h = ap (λ b. same_truth b value) (sym (h (OutputOff output) is))
stands_is site kept settings (InTest zone) tick value done is h = ap (λ b. same_truth b value) (sym (h (InTest zone) is))
stands_is site kept settings (DelaysOff panel) tick value done is h = ap (λ b. same_truth b value) (sym (h (DelaysOff panel) is))

item_setting : (item : Item) (setting : Setting) → Some (item_off item) ≡ Some setting → IsSetting setting
item_setting (Point point) setting e = let s : PointOff point ≡ setting = cc in subst IsSetting s tt
item_setting (Zone zone) setting e = let s : ZoneOff zone ≡ setting = cc in subst IsSetting s tt
item_setting (Output output) setting e = let s : OutputOff output ≡ setting = cc in subst IsSetting s tt

-- the setting that an operation at a panel is on
is_a_setting : (panel : ℕ) (operation : Operation) (setting : Setting) → IsPanelNumber panel → operation_setting panel operation ≡ Some setting
    → IsSetting setting
is_a_setting panel (Disable item) setting p e = item_setting item setting e
is_a_setting panel (Enable item) setting p e = item_setting item setting e
is_a_setting panel (Test zone) setting p e = let s : InTest zone ≡ setting = cc in subst IsSetting s tt
is_a_setting panel (Untest zone) setting p e = let s : InTest zone ≡ setting = cc in subst IsSetting s tt
is_a_setting panel (Delays on) setting p e = let s : DelaysOff panel ≡ setting = cc in subst IsSetting s p
is_a_setting panel Clear setting p e = let s : Counter panel ≡ setting = cc in subst IsSetting s p
is_a_setting panel Mute setting p e = cc
is_a_setting panel Override setting p e = cc
is_a_setting panel Silence setting p e = cc
is_a_setting panel Resound setting p e = cc
is_a_setting panel Reset setting p e = cc
is_a_setting panel (Cancel zone) setting p e = cc

-- ---- the rows

module _ (site : Site) (kept settings : Retained) (r : Request) (so_far : Operations) (waiting : List Request) (done : List DoneOperation)
    (setting : Setting) (told : TellsOpen r.tick.0 so_far waiting done) (force : AreInForce site kept r.tick.0 so_far.done settings)
    (panel : IsPanelNumber r.panel) (early : r.earlier < most_operations) (level : nat_lt r.level (needed_by r.operation) ≡ false)
    (on : operation_setting r.panel r.operation ≡ Some setting) where
  not_busy : nat_le most_operations r.earlier ≡ false
  not_busy = elim (leb_tells most_operations r.earlier) [ inl h ↦ (let l = h.1 in absurd (omega (arith, l, early))) | inr h ↦ h.0 ]

  rows : (a b : Bool) → waits_or_done setting waiting done ≡ a → has_value site settings setting (value_set r.operation) ≡ b
      → desk_reply site kept (request_from r) so_far ≡ (if a then Some Waiting else (if b then Some Already else None))
  rows a b e f =
      ap (λ x. if x then Some Busy else (if nat_lt r.level (needed_by r.operation) then Some (Denied (needed_by r.operation) r.level) else
      setting_reply site kept (request_from r) so_far (operation_setting r.panel r.operation))) not_busy
      ∙ ap (λ x. if x then Some (Denied (needed_by r.operation) r.level) else
      setting_reply site kept (request_from r) so_far (operation_setting r.panel r.operation)) level
      ∙ ap (setting_reply site kept (request_from r) so_far) on
      ∙ ap (λ x. if x then Some Waiting else (if stands_so site kept setting r.tick.0 (value_set r.operation) so_far.done then Some Already else None))
      (unsettled_is setting r.tick.0 so_far waiting done told ∙ e)
      ∙ ap (λ x. if a then Some Waiting else (if x then Some Already else None))
      (stands_is site kept settings setting r.tick.0 (value_set r.operation) so_far.done (is_a_setting r.panel r.operation setting panel on) force ∙ f)

  pub waits : waits_or_done setting waiting done ≡ true → Some Waiting ≡ desk_reply site kept (request_from r) so_far
  waits e = sym (rows true (has_value site settings setting (value_set r.operation)) e refl)

  pub stands : waits_or_done setting waiting done ≡ false → has_value site settings setting (value_set r.operation) ≡ true
      → Some Already ≡ desk_reply site kept (request_from r) so_far
  stands e f = sym (rows false true e f)

  pub goes_to_keep : waits_or_done setting waiting done ≡ false → has_value site settings setting (value_set r.operation) ≡ false
      → None ≡ desk_reply site kept (request_from r) so_far
  goes_to_keep e f = sym (rows false false e f)
