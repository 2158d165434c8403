-- The lists of a desk as the definitions have them, with one element more, and what its turns make of them.
use Rattle.std.proofs.Common.{◌≡◌, ◌∙◌, ◌+◌, ◌<◌, ◌==◌, ◌&&◌, ◌||◌, nat_le, ℕ, Bool, true, false, List, [], ◌∷◌, ◌++◌}
use Rattle.std.proofs.Common.{cond, length, get_or, take, filter, Option, Some, None, Result, Ok, Err, ap, refl, sym}
use Rattle.std.specs.Prelude.{option_map, OnOk}
use Rattle.std.specs.List.{count_by, fold, list_any}
use Rattle.std.proofs.lemmas.List.{length-map, map-append, take_more}
use Rattle.std.proofs.lemmas.List.Elements.{filter-append}
use Rattle.std.proofs.lemmas.List.Sums.{fold-append, length-filter}
use Rattle.tick_units.specs.declared.tick.Tick.{Tick}
use Rattle.site_types.specs.declared.operation.Operation.{Operation}
use Rattle.site_types.specs.declared.retained.Retained.{Retained}
use Rattle.site_types.specs.declared.site.Site.{Site}
use Rattle.site_types.specs.Done.{Done as DoneOf, Setting, is_on, is_setting}
use Rattle.panel_rules.specs.Operations.{Request as RequestOf, Answered as AnsweredOf, Operations, Reply as ReplyOf}
use Rattle.panel_rules.specs.Operations.{after_desk, after_reply, after_request, and_done as done_where_told}
use Rattle.panel_rules.specs.Operations.{answer_all, do_all, done_in, is_unsettled, keep_reply, request_of as asked}
use Rattle.panel_rules.specs.Operations.{requests_in, setting_asked}
use Rattle.plain_history.specs.declared.done.Done.{Done}
use Rattle.plain_operations.specs.declared.request.Request.{Request}
use Rattle.plain_operations.specs.declared.op_answered.OpAnswered.{OpAnswered as Answered}
use Rattle.plain_operations.specs.declared.reply.Reply.{Reply}
use Rattle.plain_operations.specs.declared.reply.Reply.TheVariants.{Busy, Denied, Waiting, Already, Store, WasDone}
use Rattle.plain_operations.specs.Desks.{all_answered, all_requests, and_answered, answered_of, reply_of, request_of}
use Rattle.plain_history.specs.Histories.{all_done, and_done, done_of}
use Rattle.plain_history.proofs.Histories.{all_done_more}

pub and_answered-append : (front back : List Answered) (before : List AnsweredOf)
    → and_answered (front ++ back) before ≡ and_answered back (and_answered front before)
and_answered-append [] back before = refl
and_answered-append (answered ∷ later) back before = and_answered-append later back (answered_of answered ∷ before)

pub all_answered_more : (answers : List Answered) (last : Answered) → all_answered (answers ++ last ∷ []) ≡ answered_of last ∷ all_answered answers
all_answered_more answers last = and_answered-append answers (last ∷ []) []

pub all_requests_more : (requests : List Request) (last : Request) → all_requests (requests ++ last ∷ []) ≡ all_requests requests ++ request_of last
    ∷ []
all_requests_more requests last = map-append request_of requests (last ∷ [])

-- a fold over the first requests goes on by one
pub fold_more : {B : Type 0} (f : B → RequestOf → B) (a : B) (xs : List Request) (k : ℕ) (d : Request) → k < length xs
    → fold f a (all_requests (take (k + 1) xs)) ≡ f (fold f a (all_requests (take k xs))) (request_of (get_or xs k d))
fold_more f a xs k d small =
    ap (λ ys. fold f a (all_requests ys)) (take_more xs k d small)
    ∙ ap (fold f a) (map-append request_of (take k xs) (get_or xs k d ∷ []))
    ∙ fold-append f a (all_requests (take k xs)) (request_of (get_or xs k d) ∷ [])

or_moved : (a b c : Bool) → (a || (b || c)) ≡ ((b || a) || c)
or_moved true true c = refl
or_moved true false c = refl
or_moved false true c = refl
or_moved false false c = refl

-- whether an operation done passes a test, the oldest or the newest of them first
pub any_done : (p : DoneOf → Bool) (xs : List Done) (before : List DoneOf)
    → list_any p (and_done xs before) ≡ (list_any (λ d. p (done_of d)) xs || list_any p before)
any_done p [] before = refl
any_done p (x ∷ xs) before = any_done p xs (done_of x ∷ before) ∙ or_moved (list_any (λ d. p (done_of d)) xs) (p (done_of x)) (list_any p before)

pub any_request : (p : RequestOf → Bool) (xs : List Request) → list_any p (all_requests xs) ≡ list_any (λ r. p (request_of r)) xs
any_request p [] = refl
any_request p (x ∷ xs) = ap (λ b. p (request_of x) || b) (any_request p xs)

-- ---- what a desk does

or_none : (b : Bool) → (b || false) ≡ b
or_none true = refl
or_none false = refl

or_first : (b x y : Bool) → b ≡ x → b ≡ true → b ≡ (x || y)
or_first b true y is holds = holds
or_first b false y is holds = cc

or_second : (b c x y : Bool) → b ≡ x → b ≡ false → c ≡ y → c ≡ (x || y)
or_second b c true y is fails then = cc
or_second b c false y is fails then = then

-- an operation on a setting waits
pub unsettled_by_waiting : (setting : Setting) (tick : ℕ) (waiting shown : List Request) (answers : List AnsweredOf) (done : List Done) (b : Bool)
    → shown ≡ waiting →
    b ≡ list_any (λ r. is_setting setting (setting_asked (request_of r))) shown → b ≡ true →
    b ≡ is_unsettled setting tick (record { waiting = all_requests waiting; answers = answers; done = all_done done })
unsettled_by_waiting setting tick waiting shown answers done b same is holds =
    or_first b _ _
    (is ∙ ap (list_any (λ r. is_setting setting (setting_asked (request_of r)))) same ∙ sym
    (any_request (λ r. is_setting setting (setting_asked r)) waiting)) holds

-- none waits, and whether one was done that isn't in force yet
pub unsettled_by_done : (setting : Setting) (tick : ℕ) (waiting shown : List Request) (answers : List AnsweredOf) (done done_shown : List Done) (b c :
    Bool) → shown ≡ waiting →
    done_shown ≡ done → b ≡ list_any (λ r. is_setting setting (setting_asked (request_of r))) shown → b ≡ false →
    c ≡ list_any (λ d. is_on setting (done_of d) && nat_le tick d.tick.0) done_shown →
    c ≡ is_unsettled setting tick (record { waiting = all_requests waiting; answers = answers; done = all_done done })
unsettled_by_done setting tick waiting shown answers done done_shown b c same same_done is fails fresh =
    or_second b c _ _
    (is ∙ ap (list_any (λ r. is_setting setting (setting_asked (request_of r)))) same ∙ sym
    (any_request (λ r. is_setting setting (setting_asked r)) waiting)) fails
    (fresh ∙ ap (list_any (λ d. is_on setting (done_of d) && nat_le tick d.tick.0)) same_done ∙ sym (or_none _) ∙ sym
    (any_done (λ d. is_on setting d && nat_le tick d.tick) done []))

pub not_done : (request : RequestOf) (reply : Reply) (done : List DoneOf) → (reply ≡ WasDone → ⊥)
    → done ≡ done_where_told request (reply_of reply) done
not_done request Busy done other = refl
not_done request (Denied needs has) done other = refl
not_done request Waiting done other = refl
not_done request Already done other = refl
not_done request Store done other = refl
not_done request WasDone done other = absurd (other refl)

pub is_done : (request : Request) (reply : Reply) (before now : List Done) (one : Done) → reply ≡ WasDone
    → done_of one ≡ done_in request.tick.0 (request_of request) →
    now ≡ before ++ one ∷ [] → all_done now ≡ done_where_told (request_of request) (reply_of reply) (all_done before)
is_done request reply before now one told same more =
    ap all_done more ∙ all_done_more before one ∙ ap (λ d. d ∷ all_done before) same
    ∙ ap (λ r. done_where_told (request_of request) (reply_of r) (all_done before)) (sym told)

-- after an answer was given
pub answered : (waiting : List RequestOf) (before now : List Answered) (done after : List DoneOf) (request : Request) (reply : Reply) (given :
    Option Reply) →
    given ≡ Some reply → now ≡ before ++ (record { request = request; tick = request.tick; reply = reply }) ∷ []
    → after ≡ done_where_told (request_of request) (reply_of reply) done →
    (record { waiting = waiting; answers = all_answered now; done = after }) ≡ after_reply (request_of request)
    (record { waiting = waiting; answers = all_answered before; done = done }) (option_map reply_of given)
answered waiting before now done after request reply given is more so =
    let last : Answered = record { request = request; tick = request.tick; reply = reply } in
    let built : List AnsweredOf → List DoneOf → Operations = λ a d. record { waiting = waiting; answers = a; done = d } in
    ap (λ a. built a after) (ap all_answered more ∙ all_answered_more before last)
    ∙ ap (built (answered_of last ∷ all_answered before)) so
    ∙ ap (λ g. after_reply (request_of request) (built (all_answered before) done) (option_map reply_of g)) (sym is)

-- after an operation was accepted for Keep
pub accepted : (before now : List Request) (answers : List AnsweredOf) (done : List DoneOf) (request : Request) (given : Option Reply) →
    given ≡ None → now ≡ before ++ request ∷ [] →
    (record { waiting = all_requests now; answers = answers; done = done }) ≡ after_reply (request_of request)
    (record { waiting = all_requests before; answers = answers; done = done }) (option_map reply_of given)
accepted before now answers done request given is more =
    let built : List RequestOf → Operations = λ w. record { waiting = w; answers = answers; done = done } in
    ap built (ap all_requests more ∙ all_requests_more before request)
    ∙ ap (λ g. after_reply (request_of request) (built (all_requests before)) (option_map reply_of g)) (sym is)

-- ---- what Keep does

-- one more answer at a turn of Keep
pub answer_more : (tick : Tick) (failed : Bool) (waiting : List Request) (k : ℕ) (first : List AnsweredOf) (before now : List Answered) (reply :
    Reply) (d : Request) →
    k < length waiting → reply_of reply ≡ keep_reply failed → all_answered before ≡ answer_all tick.0 failed (all_requests (take k waiting)) first →
    now ≡ before ++ (record { request = get_or waiting k d; tick = tick; reply = reply }) ∷ [] →
    all_answered now ≡ answer_all tick.0 failed (all_requests (take (k + 1) waiting)) first
answer_more tick failed waiting k first before now reply d small so done more =
    let one : Request = get_or waiting k d in
    let built : ReplyOf → AnsweredOf = λ r. record { request = request_of one; tick = tick.0; reply = r } in
    ap all_answered more ∙ all_answered_more before (record { request = one; tick = tick; reply = reply })
    ∙ ap (λ r. built r ∷ all_answered before) so ∙ ap (λ rest. built (keep_reply failed) ∷ rest) done
    ∙ sym (fold_more (λ (rest : List AnsweredOf) (request : RequestOf). record { request = request; tick = tick.0; reply = keep_reply failed } ∷ rest)
    first waiting k d small)

-- one more operation that is done at a turn of Keep
pub do_more : (tick : ℕ) (waiting : List Request) (k : ℕ) (first : List DoneOf) (before now : List Done) (one : Done) (d : Request) →
    k < length waiting → done_of one ≡ done_in tick (request_of (get_or waiting k d))
    → all_done before ≡ do_all tick (all_requests (take k waiting)) first →
    now ≡ before ++ one ∷ [] → all_done now ≡ do_all tick (all_requests (take (k + 1) waiting)) first
do_more tick waiting k first before now one d small so done more =
    ap all_done more ∙ all_done_more before one ∙ ap (λ x. x ∷ all_done before) so ∙ ap (λ rest. done_in tick (request_of (get_or waiting k d))
    ∷ rest) done
    ∙ sym (fold_more (λ (rest : List DoneOf) (request : RequestOf). done_in tick request ∷ rest) first waiting k d small)

-- ---- a turn of Desk

-- one more operation that Desk looks at
pub desk_more : (site : Site) (kept : Retained) (panel tick : ℕ) (requests : List Request) (k : ℕ) (first : Operations) (d : Request)
    → k < length requests →
    after_desk site kept (requests_in panel tick (all_requests (take (k + 1) requests))) first
    ≡ after_desk site kept (requests_in panel tick (request_of (get_or requests k d) ∷ []))
    (after_desk site kept (requests_in panel tick (all_requests (take k requests))) first)
desk_more site kept panel tick requests k first d small =
    let taken : List RequestOf = all_requests (take k requests) in
    let one : RequestOf = request_of (get_or requests k d) in
    let is_asked : RequestOf → Bool = λ r. (r.panel == panel) && (r.tick == tick) in
    ap (λ rs. after_desk site kept (requests_in panel tick rs) first)
    (ap all_requests (take_more requests k d small) ∙ all_requests_more (take k requests) (get_or requests k d))
    ∙ ap (λ rs. after_desk site kept rs first) (filter-append is_asked taken (one ∷ []))
    ∙ fold-append (after_request site kept) first (requests_in panel tick taken) (requests_in panel tick (one ∷ []))

-- the same where the operation was done if memory allowed
pub answered_ok : {T E : Type 0} (result : Result T E) (waiting : List RequestOf) (before now : List Answered) (done after : List DoneOf) (request :
    Request) (reply : Reply) (given : Option Reply) →
    given ≡ Some reply → now ≡ before ++ (record { request = request; tick = request.tick; reply = reply }) ∷ []
    → OnOk result (after ≡ done_where_told (request_of request) (reply_of reply) done) →
    OnOk result ((record { waiting = waiting; answers = all_answered now; done = after }) ≡ after_reply (request_of request)
    (record { waiting = waiting; answers = all_answered before; done = done }) (option_map reply_of given))
answered_ok (Ok value) waiting before now done after request reply given is more so =
    answered waiting before now done after request reply given is more so
answered_ok (Err error) waiting before now done after request reply given is more so = tt

-- ---- what is asked for

kept_view : (b : Bool) (x : Request) (xs : List Request) (rest : List RequestOf) → rest ≡ all_requests xs
    → cond b (request_of x ∷ rest) rest ≡ all_requests (cond b (x ∷ xs) xs)
kept_view true x xs rest same = ap (λ ys. request_of x ∷ ys) same
kept_view false x xs rest same = same

filtered : (panel tick : ℕ) (xs : List Request)
    → requests_in panel tick (all_requests xs) ≡ all_requests (filter (λ (r : Request). (r.panel == panel) && (r.tick.0 == tick)) xs)
filtered panel tick [] = refl
filtered panel tick (x ∷ xs) =
    kept_view ((x.panel == panel) && (x.tick.0 == tick)) x (filter (λ (r : Request). (r.panel == panel) && (r.tick.0 == tick)) xs) _
    (filtered panel tick xs)

counted : (panel tick : ℕ) (xs : List Request)
    → count_by (λ (r : Request). (r.panel == panel) && (r.tick.0 == tick)) xs ≡ length (requests_in panel tick (all_requests xs))
counted panel tick xs =
    let is_in : Request → Bool = λ r. (r.panel == panel) && (r.tick.0 == tick) in
    sym (length-filter is_in xs) ∙ sym (length-map (filter is_in xs) request_of) ∙ sym (ap length (filtered panel tick xs))

-- an operation is asked for behind those that came before it
pub request_more : (tick : Tick) (panel level : ℕ) (operation : Operation) (before shown now : List Request) (number earlier opened : ℕ)
    → shown ≡ before →
    earlier ≡ count_by (λ (r : Request). (r.panel == panel) && (r.tick.0 == tick.0)) shown → number ≡ length before + 1 → level ≡ opened →
    now ≡ before ++ (record { number = number; tick = tick; panel = panel; earlier = earlier; level = level; operation = operation }) ∷ [] →
    all_requests now ≡ all_requests before ++ asked tick.0 panel opened operation (all_requests before) ∷ []
request_more tick panel level operation before shown now number earlier opened same few next opens more =
    let built : ℕ → ℕ → ℕ → RequestOf = λ n e l. record { number = n; tick = tick.0; panel = panel; earlier = e; level = l; operation = operation } in
    let behind : RequestOf → List RequestOf = λ r. all_requests before ++ r ∷ [] in
    ap all_requests more ∙ all_requests_more before _
    ∙ ap (λ n. behind (built n earlier level)) (next ∙ ap (λ n. n + 1) (sym (length-map before request_of)))
    ∙ ap (λ e. behind (built (length (all_requests before) + 1) e level))
    (few ∙ counted panel tick.0 shown ∙ ap (λ xs. length (requests_in panel tick.0 (all_requests xs))) same)
    ∙ ap (λ l. behind (built (length (all_requests before) + 1) (length (requests_in panel tick.0 (all_requests before))) l)) opens
