-- How the words of panels go round a ring.
use Rattle.std.specs.Prelude.{◌≡◌, ◌⊎◌, ℕ, ◌+◌, ◌-◌, ◌/◌, ◌%◌, ◌<◌, ◌≤◌, ◌==◌, nat_le, Bool, true, List, []}
use Rattle.std.specs.Prelude.{◌∷◌, if◌then◌else◌}
use Rattle.site_types.specs.declared.word.Word.{Word}
use Rattle.site_types.specs.Words.{empty_word}

-- what befalls the ring: a link goes up or down, or a panel has its turn in a tick, in which it has made a
-- word of its own; lists of these have the newest first
pub data Call : Type 0 where
  Linked : (link : ℕ) → (up : Bool) → Call
  Took : (tick panel : ℕ) → (own : Word) → Call

-- whether a link is up, by its last report; at the start it is
abbrev pub is_up : ℕ → List Call → Bool
is_up link [] = true
is_up link (Linked other up ∷ before) = if other == link then up else is_up link before
is_up link (Took tick panel own ∷ before) = is_up link before

-- the panels before and after one in the ring. Link n joins panel n and the one after it
abbrev pub left_of : ℕ → ℕ → ℕ
left_of panels panel = if panel == 1 then panels else panel - 1

abbrev pub right_of : ℕ → ℕ → ℕ
right_of panels panel = if panel == panels then 1 else panel + 1

-- the group of panels whose words a tick carries: up to four panels are one group, else odd ticks carry the
-- first four and even ticks the others
abbrev pub group_of : ℕ → ℕ → ℕ
group_of panels tick = if nat_le panels 4 then 0 else (tick + 1) % 2

-- a tick carries the words of a panel
abbrev pub carries : ℕ → ℕ → ℕ → Bool
carries panels tick panel = ((panel - 1) / 4) == group_of panels tick

-- another panel is a neighbour over a link that is up. A panel alone has no links
pub record AreJoined (panels : ℕ) (before : List Call) (one other : ℕ) : Type 0 where
  pub several : 1 < panels
  pub over_link : ((other ≡ right_of panels one) × (is_up one before ≡ true))
      ⊎ ((other ≡ left_of panels one) × (is_up other before ≡ true))

-- A chain of turns, each later than the one before, from a panel to another. The first is of the panel whose
-- word it is, and each next one of a neighbour of the panel before, over a link that is up then, in a tick
-- that carries that word.
pub data Comes (panels from : ℕ) : ℕ → List Call → Word → Type 0 where
  begins : (tick : ℕ) (own : Word) (before : List Call)
      → Comes panels from from (Took tick from own ∷ before) own
  passes : (one other tick : ℕ) (own word : Word) (before : List Call) → Comes panels from one before word
      → AreJoined panels before other one → carries panels tick from ≡ true
      → Comes panels from other (Took tick other own ∷ before) word
  lasts : (at : ℕ) (word : Word) (call : Call) (before : List Call) → Comes panels from at before word
      → Comes panels from at (call ∷ before) word

-- the word that a panel keeps of another: of those that come by chains one with the greatest stamp, or the
-- empty one
pub record IsNewest (panels from at : ℕ) (before : List Call) (word : Word) : Type 0 where
  pub comes : Comes panels from at before word ⊎ (word ≡ empty_word)
  pub greatest : (other : Word) → Comes panels from at before other → other.stamp.0 ≤ word.stamp.0

-- the stamp of the word that a panel keeps of another
pub record IsHeard (panels from at : ℕ) (before : List Call) (stamp : ℕ) : Type 0 where
  pub word : Word
  pub is_newest : IsNewest panels from at before word
  pub of_word : word.stamp.0 ≡ stamp

-- the stamp of the word that a panel made last
abbrev pub own_stamp : ℕ → List Call → ℕ
own_stamp panel [] = 0
own_stamp panel (Linked link up ∷ before) = own_stamp panel before
own_stamp panel (Took tick other own ∷ before) =
    if other == panel then own.stamp.0 else own_stamp panel before

-- no panel makes a word with an earlier stamp than its last one
abbrev pub OwnStampsRise : List Call → Type 0
OwnStampsRise [] = Unit {0}
OwnStampsRise (Linked link up ∷ before) = OwnStampsRise before
OwnStampsRise (Took tick panel own ∷ before) = (own_stamp panel before ≤ own.stamp.0) × OwnStampsRise before
