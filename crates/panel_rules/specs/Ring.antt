-- The ring of panels: link n joins panel n and the next one, the last link joins the last panel and panel 1.
use Rattle.std.specs.Prelude.{◌≡◌, ℕ, ◌+◌, ◌-◌, ◌%◌, ◌≤◌, ◌<◌, true, List}
use Rattle.panel_rules.specs.Moments.{Moment, up_to}
use Rattle.panel_rules.specs.States.{is_up}

-- how many links lie on the way up from one panel to another
abbrev pub links_between : ℕ → ℕ → ℕ → ℕ
links_between panels from to = (to + panels - from) % panels

-- the links on the way up from a panel, counted from 0
abbrev pub link_on : ℕ → ℕ → ℕ → ℕ
link_on panels from step = (from + step - 1) % panels + 1

-- each link on the way up from one panel to another is up at each tick of a span, both ends included
abbrev pub IsWayUp : ℕ → List Moment → ℕ → ℕ → ℕ → ℕ → Type 0
IsWayUp panels moments from to first last = (step tick : ℕ) → step < links_between panels from to
    → first ≤ tick → tick ≤ last → is_up (link_on panels from step) (up_to tick moments) ≡ true

-- two panels are joined in a span: they are one, or one of the two ways round the ring between them is up
-- throughout
pub data AreJoined (panels : ℕ) (moments : List Moment) (one other first last : ℕ) : Type 0 where
  the_same : one ≡ other → AreJoined panels moments one other first last
  upward : IsWayUp panels moments one other first last → AreJoined panels moments one other first last
  downward : IsWayUp panels moments other one first last → AreJoined panels moments one other first last
