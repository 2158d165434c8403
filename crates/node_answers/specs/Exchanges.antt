-- What comes to a panel by itself over its connections: what it makes of the panel's history, and what is answered.
use Rattle.std.specs.Prelude.{◌≡◌, ℕ, Bool, List, [], ◌∷◌, ◌++◌, map, if◌then◌else◌}
use Rattle.site_types.specs.declared.retained.Retained.{Retained}
use Rattle.site_types.specs.declared.site.Site.{Site}
use Rattle.panel_edges.specs.Contents.{Grows, GrowsByFront}
use Rattle.desk_doors.specs.Doors.{ToldConn}
use Rattle.desk_runs.specs.Ticks.{is_next, tick_expected, tick_told}
use Rattle.panel_frames.specs.Bytes.{frame_bytes}
use Rattle.panel_rules.specs.Moments.{Moment, moments, tick_of}
use Rattle.panel_rules.specs.Timeline.{answers_now, failed_now, told}
use Rattle.site_run.specs.Pages.{written_text}
use Rattle.node_rules.specs.Histories.{NodeMoment, Befell, FrameCame, befallen}
use Rattle.node_rules.specs.Nodes.{node_face, node_frame}
use Rattle.node_inputs.specs.Inputs.{what_came}
use Rattle.node_inputs.specs.Reading.{ReadsInput}
use Rattle.node_inputs.specs.declared.input.NodeInput.{NodeInput}
use Rattle.node_inputs.specs.declared.input.NodeInput.TheVariants.{Nothing, Framed, BadFrame, Block, BadBlock, TooLong}
use Rattle.node_answers.specs.Lines.{other_tick_line, refused_block_line, refused_frame_line, too_long_line}
use Rattle.node_answers.specs.declared.exchanged.Exchanged.{Exchanged}
use Rattle.node_answers.specs.declared.exchanged.Exchanged.TheVariants.{Answered, ReadFault, WriteFault}

-- a connection as it was given and as it was handed back, and what came of it
pub record ExchangedConn : Type 0 where
  pub given : ToldConn
  pub back : ToldConn
  pub exchanged : Exchanged

-- ---- the history

-- a history up to the end of its latest tick: without the frames that came since
abbrev pub at_tick_end : List NodeMoment → List NodeMoment
at_tick_end [] = []
at_tick_end (Befell moment ∷ before) = Befell moment ∷ before
at_tick_end (FrameCame frame ∷ before) = at_tick_end before

-- a history with the tick of a block more: it begins, what the block tells befalls the panel, and each seat has its
-- turn, in canonical order. Keep's fails or not
abbrev pub and_tick : Site → Bool → List ℕ → List NodeMoment → List NodeMoment
and_tick site failed block history =
    map (λ (moment : Moment). Befell moment) (moments (tick_told site failed block ∷ [])) ++ history

-- how many ticks were run
abbrev pub ticks_run : List NodeMoment → ℕ
ticks_run history = tick_of (befallen history)

-- the history behind what came: a frame that may be got has come, a block of the next tick was run; all else
-- changes nothing
abbrev pub history_behind : Site → Bool → List ℕ → List NodeMoment → NodeInput → List NodeMoment
history_behind site failed bytes before Nothing = before
history_behind site failed bytes before (Framed frame) = FrameCame frame ∷ before
history_behind site failed bytes before (BadFrame refusal) = before
history_behind site failed bytes before (Block tick) =
    if is_next tick (ticks_run before) then and_tick site failed bytes before else before
history_behind site failed bytes before (BadBlock refusal) = before
history_behind site failed bytes before TooLong = before

module _ (site : Site) (digest : List ℕ) (panel : ℕ) (kept : Retained) where
  -- ---- what is answered

  -- the frame of the panel
  abbrev pub frame_told : List NodeMoment → List ℕ
  frame_told history = frame_bytes digest (node_frame site panel history kept)

  -- the part of a tick in the text, for this panel: how its face changed since the tick before, and what was answered
  abbrev pub tick_part : List NodeMoment → List NodeMoment → List ℕ
  tick_part before after =
      written_text site (ticks_run after) (node_face site panel (at_tick_end before) kept ∷ [])
      (node_face site panel after kept ∷ [])
      (told (answers_now site kept (befallen after)) (failed_now site kept (befallen after)))

  -- what is answered to what came behind a history, with the history that it makes
  abbrev pub answer_to : List NodeMoment → List NodeMoment → NodeInput → List ℕ
  answer_to before after Nothing = frame_told after
  answer_to before after (Framed frame) = frame_told after
  answer_to before after (BadFrame refusal) = refused_frame_line refusal
  answer_to before after (Block tick) =
      if is_next tick (ticks_run before) then tick_part before after
      else other_tick_line (tick_expected (ticks_run before)) tick
  answer_to before after (BadBlock refusal) = refused_block_line refusal
  answer_to before after TooLong = too_long_line

  -- ---- one connection

  -- these bytes came over a connection behind a history, and an answer was written in this way
  pub record Exchange (Wrote : List ℕ → Type 0) (before : List NodeMoment) (given back : ToldConn) (after :
      List NodeMoment) : Type 0 where
    pub bytes : List ℕ
    pub read : ReadsInput given.unread back.unread bytes
    pub failed : Bool
    pub history : after ≡ history_behind site failed bytes before (what_came site digest panel bytes)
    pub wrote : Wrote (answer_to before after (what_came site digest panel bytes))

  -- What came of a connection. It was answered; or a write failed, and a front of the answer was written while what
  -- came has acted; or a read failed, and nothing was written and nothing changed.
  abbrev pub Exchanges : List NodeMoment → ToldConn → ToldConn → Exchanged → List NodeMoment → Type 0
  Exchanges before given back Answered after = Exchange (Grows given.answer back.answer) before given back after
  Exchanges before given back WriteFault after =
      Exchange (GrowsByFront given.answer back.answer) before given back after
  Exchanges before given back ReadFault after = (after ≡ before) × (back.answer ≡ given.answer)

  -- ---- one after another

  -- these connections came one after another since the opening, and made this history
  pub data ExchangesEach : List ExchangedConn → List NodeMoment → Type 0 where
    no_conn : ExchangesEach [] []
    and_conn : (conns : List ExchangedConn) (conn : ExchangedConn) (before after : List NodeMoment)
        → ExchangesEach conns before → Exchanges before conn.given conn.back conn.exchanged after
        → ExchangesEach (conns ++ conn ∷ []) after
