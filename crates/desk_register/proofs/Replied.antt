-- Replies to a visit by what came of putting it.
use Rattle.std.proofs.Common.{◌≡◌, ◌∙◌, ◌<◌, ◌≤◌, ℕ, List, Option, Some, None, ap, length, refl, subst, sym}
use Rattle.std.specs.Global.{Vec}
use Rattle.std.specs.Prelude.{◌≢◌, Result, Ok, Err, IfOk, IfSome}
use Rattle.service_keepers.specs.Keeping.{ChangesBy}
use Rattle.service_keepers.specs.Rows.{visit_row}
use Rattle.service_keepers.specs.Tables.{Tables, VisitRow}
use Rattle.service_register.specs.Answers.{HasOtherVisit, IsOfKeeper, IsOfVisit}
use Rattle.service_register.specs.declared.refusal.RegisterRefusal.{RegisterRefusal}
use Rattle.service_register.specs.declared.refusal.RegisterRefusal.TheVariants.{Differs, KeeperFault, NoMemory, NoSuchPoint, NoSuchVisit}
use Rattle.service_register.specs.Export.{csv_text}
use Rattle.service_register.specs.Points.{PointRow, untested}
use Rattle.site_types.specs.declared.site.Site.{Site}
use Rattle.desk_bodies.specs.Bodies.{VisitSaid, stop_of, visit_of}
use Rattle.desk_bodies.specs.declared.refusal.BodyRefusal.{BodyRefusal}
use Rattle.desk_bodies.specs.declared.refusal.BodyRefusal.TheVariants.{BadForm, NoMemory as IsFull}
use Rattle.desk_answers.specs.declared.object.Object.TheVariants.{Tested}
use Rattle.desk_register.specs.Puts.{tests_at}
use Rattle.desk_register.specs.Replies.{AnswersPut, AnswersStop, AnswersUntested, AnswersVisit, HasFailed, IsUnchanged, KeeperSides, PutsPart, SaysNothing, untested_text}
use Rattle.desk_register.specs.Replies.{all_is_put, other_is_kept, put_has_failed, put_has_no_memory, stop_has_no_memory, stop_isnt_read, table_has_failed, table_has_no_memory}
use Rattle.desk_register.specs.Replies.{visit_has_no_memory, visit_isnt_read}
use Rattle.desk_register.specs.Statuses.{denied, done, needed_level, refusal_reply, unread_reply}
use Rattle.desk_register.specs.Taken.{IfOther, IsOfTests, IsOfVisitWithTests, VisitTaken}
use Rattle.desk_register.specs.declared.reply.Reply.{Reply}
use Rattle.desk_register.proofs.InTurn.{goes_as}

-- how the visit that a body says is taken
abbrev pub Takes : Site → VisitSaid → Result (Unit {0}) RegisterRefusal → Tables → Tables → Type 0
Takes site said result = VisitTaken said.visit (tests_at site said.visit.number said.points) result

other_found : (visit other : VisitRow) (before after : Option Tables)
    → ChangesBy (λ old new. HasOtherVisit visit other old × (new ≡ old)) before after → IfSome before (HasOtherVisit visit other)
other_found visit other None after step = tt
other_found visit other (Some old) None step = absurd step
other_found visit other (Some old) (Some new) step = step.0

-- ---- bodies that aren't read

pub stop_unread : (site : Site) (body : List ℕ) (reply : Reply) (why : BodyRefusal) → reply ≡ unread_reply why
    → (why ≡ BadForm → SaysNothing stop_of body) → AnswersStop site body reply
stop_unread site body reply BadForm is nothing = stop_isnt_read (nothing refl) is
stop_unread site body reply IsFull is nothing = stop_has_no_memory is

pub visit_unread : (site : Site) (body : List ℕ) (sides : KeeperSides) (reply : Reply) (why : BodyRefusal) → IsUnchanged sides
    → reply ≡ unread_reply why → (why ≡ BadForm → SaysNothing (visit_of site) body) → AnswersVisit site body sides reply
visit_unread site body sides reply BadForm same is nothing = visit_isnt_read (nothing refl) same is
visit_unread site body sides reply IsFull same is nothing = visit_has_no_memory same is

-- ---- the level of a code

pub low_at : (level opened : ℕ) → level ≡ opened → level < 3 → opened < needed_level
low_at level opened is low = subst (λ (n : ℕ). n < 3) is low

pub enough_at : (level opened : ℕ) → level ≡ opened → 3 ≤ level → needed_level ≤ opened
enough_at level opened is enough = subst (λ (n : ℕ). 3 ≤ n) is enough

pub denied_at : (level opened : ℕ) (reply : Reply) → level ≡ opened → reply ≡ denied level → reply ≡ denied opened
denied_at level opened reply is replied = replied ∙ ap denied is

-- ---- a visit that is put

told_by : (visit count points : ℕ) → count ≡ points → done (Tested visit count) ≡ done (Tested visit points)
told_by visit count points is = ap (λ (n : ℕ). done (Tested visit n)) is

pub put_done : (site : Site) (said : VisitSaid) (sides : KeeperSides) (reply : Reply) (count : ℕ) (result : Result (Unit {0}) RegisterRefusal)
    → result ≡ Ok tt → ChangesBy (Takes site said result) sides.before sides.after → count ≡ length said.points
    → reply ≡ done (Tested said.visit.number count) → AnswersPut site said sides reply
put_done site said sides reply count result ok takes counts is =
    all_is_put (subst (λ (r : Result (Unit {0}) RegisterRefusal). ChangesBy (Takes site said r) sides.before sides.after) ok takes)
    (is ∙ told_by said.visit.number count (length said.points) counts)

-- ---- what the register refuses

-- the reply to a visit that the register refuses
pub put_refused : (site : Site) (said : VisitSaid) (sides : KeeperSides) (reply : Reply) (why : RegisterRefusal) → reply ≡ refusal_reply why
    → ChangesBy (Takes site said (Err why)) sides.before sides.after → IfOther why (sides.after ≡ sides.before) → (why ≡ KeeperFault → HasFailed sides)
    → AnswersPut site said sides reply
put_refused site said sides reply NoSuchPoint is takes other failed =
    put_has_no_memory (goes_as (Takes site said (Err NoSuchPoint)) (PutsPart site said) (λ a b none. absurd none) sides.before sides.after takes) is
put_refused site said sides reply (Differs visit) is takes other failed =
    other_is_kept visit (other_found said.visit (visit_row visit) sides.before sides.after takes) other is
put_refused site said sides reply NoSuchVisit is takes other failed =
    put_has_no_memory (goes_as (Takes site said (Err NoSuchVisit)) (PutsPart site said) (λ a b none. absurd none) sides.before sides.after takes) is
put_refused site said sides reply KeeperFault is takes other failed = put_has_failed takes (failed refl) is
put_refused site said sides reply NoMemory is takes other failed = put_has_no_memory takes is

-- the reply to the untested points where the register refuses
pub list_refused : (points : List PointRow) (day : ℕ) (sides : KeeperSides) (reply : Reply) (why : RegisterRefusal) → reply ≡ refusal_reply why
    → IsOfKeeper why → (why ≡ KeeperFault → HasFailed sides) → AnswersUntested points day sides reply
list_refused points day sides reply NoSuchPoint is of failed = absurd of
list_refused points day sides reply (Differs visit) is of failed = absurd of
list_refused points day sides reply NoSuchVisit is of failed = absurd of
list_refused points day sides reply KeeperFault is of failed = table_has_failed (failed refl) is
list_refused points day sides reply NoMemory is of failed = table_has_no_memory is

-- ---- the untested points

listed_told : (points : List PointRow) (day : ℕ) (places bytes : List ℕ) (told : Option Tables) → IfSome told (λ kept. places ≡ untested day kept points)
    → IfSome told (λ kept. bytes ≡ csv_text kept points places) → IfSome told (λ kept. bytes ≡ untested_text points day kept)
listed_told points day places bytes None are is = tt
listed_told points day places bytes (Some kept) are is = is ∙ ap (csv_text kept points) are

-- the table is that of the places that were listed before
pub listed_by : (points : List PointRow) (day : ℕ) (listed places : List ℕ) (result : Result (Vec ℕ) RegisterRefusal) (old middle : Option Tables)
    → middle ≡ old → places ≡ listed → IfSome old (λ kept. listed ≡ untested day kept points)
    → IfOk result (λ bytes. IfSome middle (λ kept. bytes.items ≡ csv_text kept points places))
    → IfOk result (λ bytes. IfSome old (λ kept. bytes.items ≡ untested_text points day kept))
listed_by points day listed places (Err why) old middle same these are is = tt
listed_by points day listed places (Ok bytes) old middle same these are is =
    listed_told points day places bytes.items old
    (subst (λ (list : List ℕ). IfSome old (λ kept. list ≡ untested day kept points)) (sym these) are)
    (subst (λ (told : Option Tables). IfSome told (λ kept. bytes.items ≡ csv_text kept points places)) same is)

-- ---- which refusals

pub not_point_of_keeper : (why : RegisterRefusal) → IsOfKeeper why → why ≢ NoSuchPoint
not_point_of_keeper NoSuchPoint of = λ _. of
not_point_of_keeper (Differs visit) of = λ is. cc
not_point_of_keeper NoSuchVisit of = λ is. cc
not_point_of_keeper KeeperFault of = λ is. cc
not_point_of_keeper NoMemory of = λ is. cc

pub not_point_of_visit : (why : RegisterRefusal) → IsOfVisitWithTests why → why ≢ NoSuchPoint
not_point_of_visit NoSuchPoint of = λ _. of
not_point_of_visit (Differs visit) of = λ is. cc
not_point_of_visit NoSuchVisit of = λ is. cc
not_point_of_visit KeeperFault of = λ is. cc
not_point_of_visit NoMemory of = λ is. cc

pub visit_or_test : (why : RegisterRefusal) → IsOfVisit why → IsOfVisitWithTests why
visit_or_test NoSuchPoint of = of
visit_or_test (Differs visit) of = tt
visit_or_test NoSuchVisit of = tt
visit_or_test KeeperFault of = tt
visit_or_test NoMemory of = tt

pub test_or_visit : (why : RegisterRefusal) → IsOfTests why → IsOfVisitWithTests why
test_or_visit NoSuchPoint of = of
test_or_visit (Differs visit) of = tt
test_or_visit NoSuchVisit of = tt
test_or_visit KeeperFault of = tt
test_or_visit NoMemory of = tt

-- another visit isn't found at a test
pub no_other : (fact : Type 0) (why : RegisterRefusal) → IsOfTests why → IfOther why fact
no_other fact NoSuchPoint of = tt
no_other fact (Differs visit) of = absurd of
no_other fact NoSuchVisit of = tt
no_other fact KeeperFault of = tt
no_other fact NoMemory of = tt

-- a fact is one where another visit was found
pub if_other : (fact : Type 0) (why : RegisterRefusal) → fact → IfOther why fact
if_other fact NoSuchPoint is = tt
if_other fact (Differs visit) is = is
if_other fact NoSuchVisit is = tt
if_other fact KeeperFault is = tt
if_other fact NoMemory is = tt
