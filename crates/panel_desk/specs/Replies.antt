-- What is replied to a request by a site that has run some ticks, and which it has run then.
use Rattle.std.specs.Prelude.{◌≡◌, ◌++◌, ℕ, Bool, true, false, List, [], ◌∷◌, length, Result, Ok, Err}
use Rattle.desk_answers.specs.AnswerHeads.{answer_head}
use Rattle.desk_answers.specs.Objects.{object_text}
use Rattle.desk_answers.specs.ProfileTables.{table_text}
use Rattle.desk_answers.specs.declared.content.Content.TheVariants.{Json, Text, Table as CsvTable}
use Rattle.desk_answers.specs.declared.object.Object.{Object as JsonObject}
use Rattle.desk_answers.specs.declared.object.Object.TheVariants.{Empty, RefusedLine, OtherTick, OtherVisit, Denied}
use Rattle.desk_answers.specs.declared.object.Object.TheVariants.{Tested, Stopped as StopObject}
use Rattle.desk_faces.specs.FaceObjects.{face_object}
use Rattle.desk_register.specs.Replies.{AnswersStop, AnswersUntested, AnswersVisit, IsUnchanged, KeeperSides}
use Rattle.desk_register.specs.Statuses.{refused, status_of as register_status}
use Rattle.desk_register.specs.declared.reply.Reply.{Reply as RegisterReply}
use Rattle.desk_register.specs.declared.reply.Reply.TheVariants.{Object, Table}
use Rattle.desk_requests.specs.declared.route.Route.{Route}
use Rattle.desk_requests.specs.declared.route.Route.TheVariants as route
use Rattle.desk_requests.specs.declared.status.Status.{Status}
use Rattle.desk_requests.specs.declared.status.Status.TheVariants.{Done, BadRequest, Conflict}
use Rattle.desk_ticks.specs.Blocks.{verdict_of}
use Rattle.desk_ticks.specs.declared.block_refusal.BlockRefusal.{BlockRefusal}
use Rattle.desk_runs.specs.Ticks.{is_next, tick_expected, tick_told}
use Rattle.panel_desk.specs.declared.reply.Reply.{Reply}
use Rattle.panel_desk.specs.declared.reply.Reply.TheVariants.{Face, Profile, Tick, Other}
use Rattle.panel_rules.specs.Moments.{TickBlock, moments}
use Rattle.panel_rules.specs.Timeline.{face_of}
use Rattle.run_text.specs.SoFar.{tick_text}
use Rattle.service_register.specs.Points.{points_of}
use Rattle.site_types.specs.declared.retained.Retained.{Retained}
use Rattle.site_types.specs.declared.site.Site.{Site}

-- ---- what is replied

-- the reply to a request that is refused before its body is looked at
abbrev pub refused_reply : Status → Reply
refused_reply status = Other (refused status)

-- the reply to a block of which a line is refused
abbrev pub refused_line : BlockRefusal → Reply
refused_line refusal = Other (Object BadRequest (RefusedLine refusal.line refusal.number))

-- the reply to the block of another tick, behind so many
abbrev pub other_tick : ℕ → ℕ → Reply
other_tick count found = Other (Object Conflict (OtherTick (tick_expected count) found))

-- a block of which no line is refused, and that begins this tick: it is run where it is the next one
pub record TakesBlock (site : Site) (found : ℕ) (block : List ℕ) (before after : List TickBlock) (reply : Reply) :
    Type 0 where
  pub runs : is_next found (length before) ≡ true → (failed : Bool)
      × (after ≡ tick_told site failed block ∷ before) × (reply ≡ Tick)
  pub refuses : is_next found (length before) ≡ false → (after ≡ before) × (reply ≡ other_tick (length before) found)

-- what comes of a block
abbrev pub AnswersBlock : Site → List ℕ → List TickBlock → List TickBlock → Result ℕ BlockRefusal → Reply → Type 0
AnswersBlock site block before after (Ok found) reply = TakesBlock site found block before after reply
AnswersBlock site block before after (Err refusal) reply = (after ≡ before) × (reply ≡ refused_line refusal)

-- no tick is run
abbrev pub IsTold : List TickBlock → List TickBlock → Reply → Reply → Type 0
IsTold before after reply told = (after ≡ before) × (reply ≡ told)

-- a reply about the register, while no tick is run
abbrev pub IsOfRegister : (RegisterReply → Type 0) → List TickBlock → List TickBlock → Reply → Type 0
IsOfRegister Answers before after reply = (told : RegisterReply) × Answers told × IsTold before after reply (Other told)

-- what is replied to a request for this with this body, and which ticks are run then
abbrev pub Replies : Site → Route → List ℕ → KeeperSides → List TickBlock → List TickBlock → Reply → Type 0
Replies site (route.Face panel) body sides before after reply =
    IsUnchanged sides × IsTold before after reply (Face panel)
Replies site route.Table body sides before after reply = IsUnchanged sides × IsTold before after reply Profile
Replies site route.Ticks body sides before after reply =
    IsUnchanged sides × AnswersBlock site body before after (verdict_of site body) reply
Replies site route.Visits body sides before after reply =
    IsOfRegister (AnswersVisit site body sides) before after reply
Replies site (route.Untested day) body sides before after reply =
    IsUnchanged sides × IsOfRegister (AnswersUntested (points_of site) day sides) before after reply
Replies site route.Stop body sides before after reply =
    IsUnchanged sides × IsOfRegister (AnswersStop site body) before after reply

-- ---- what a reply is written as

-- the text of the tick that was run last
abbrev pub last_text : Site → Retained → List TickBlock → List ℕ
last_text site kept [] = []
last_text site kept (tick ∷ ticks) = tick_text site kept (moments ticks) (moments (tick ∷ ticks))

abbrev pub register_bytes : RegisterReply → List ℕ
register_bytes (Object status object) = answer_head status Json ++ object_text object
register_bytes (Table bytes) = answer_head Done CsvTable ++ bytes.items

-- the bytes of a reply, behind some ticks
abbrev pub reply_bytes : Site → Retained → List TickBlock → Reply → List ℕ
reply_bytes site kept ticks (Face panel) =
    answer_head Done Json ++ face_object site (face_of site kept panel (moments ticks)) (length ticks)
reply_bytes site kept ticks Profile = answer_head Done Json ++ table_text site.format
reply_bytes site kept ticks Tick = answer_head Done Text ++ last_text site kept ticks
reply_bytes site kept ticks (Other reply) = register_bytes reply

-- the status of a reply
abbrev pub status_of : Reply → Status
status_of (Face panel) = Done
status_of Profile = Done
status_of Tick = Done
status_of (Other reply) = register_status reply

abbrev pub stops_with : JsonObject → Bool
stops_with Empty = false
stops_with (RefusedLine line refusal) = false
stops_with (OtherTick expected found) = false
stops_with (OtherVisit visit) = false
stops_with (Denied level) = false
stops_with (Tested visit tested) = false
stops_with StopObject = true

abbrev pub register_stops : RegisterReply → Bool
register_stops (Object status object) = stops_with object
register_stops (Table bytes) = false

-- a reply that grants a stop
abbrev pub is_stop : Reply → Bool
is_stop (Face panel) = false
is_stop Profile = false
is_stop Tick = false
is_stop (Other reply) = register_stops reply
