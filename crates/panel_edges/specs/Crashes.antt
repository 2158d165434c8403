-- What a crash may leave of a disk (its images), now and at some moment since another.
use Rattle.std.specs.Prelude.{◌≡◌, ◌⊎◌, ℕ, ◌≤◌, List}

-- each new image is an old one after a step
abbrev pub Follows : (List ℕ → List ℕ → Type 0) → (List ℕ → Type 0) → (List ℕ → Type 0) → Type 0
Follows step old new = (c : List ℕ) → new c → (d : List ℕ) × old d × step d c

-- a crash leaves nothing that it might not have left before
abbrev pub Stays : (List ℕ → Type 0) → (List ℕ → Type 0) → Type 0
Stays old new = (c : List ℕ) → new c → old c

-- a crash leaves this file and nothing else
abbrev pub Only : List ℕ → (List ℕ → Type 0) → Type 0
Only file images = (c : List ℕ) → images c → c ≡ file

-- what an image becomes in a step
abbrev pub After : (List ℕ → List ℕ → Type 0) → (List ℕ → Type 0) → List ℕ → Type 0
After step images c = (d : List ℕ) × images d × step d c

-- Time goes on in a call: a crash at some moment since t leaves what it might have left before the call, or
-- an image that the call brings.
pub record Elapses (before after : ℕ) (past since : ℕ → List ℕ → Type 0) (images : List ℕ → Type 0) :
    Type 0 where
  pub later : before ≤ after
  pub nothing_else : (t : ℕ) (c : List ℕ) → t ≤ before → since t c → past t c ⊎ images c
  pub keeps : (t : ℕ) (c : List ℕ) → t ≤ before → past t c → since t c

-- time goes on so from a disk before a call to the disk after it
abbrev pub ElapsesIn :
    {D : Type 0} → (D → ℕ) → (D → ℕ → List ℕ → Type 0) → D → D → (List ℕ → Type 0) → Type 0
ElapsesIn moment left_since old new images =
    Elapses (moment old) (moment new) (left_since old) (left_since new) images

-- A crash at any moment since the old disk, within a call too, leaves a file that has P.
pub record LeavesOnly {D : Type 0} (moment : D → ℕ) (left_since : D → ℕ → List ℕ → Type 0) (old new : D) (P :
    List ℕ → Type 0) : Type 0 where
  pub later : moment old ≤ moment new
  pub each : (c : List ℕ) → left_since new (moment old) c → P c
  pub before : (t : ℕ) (c : List ℕ) → t ≤ moment old → left_since new t c → left_since old t c ⊎ P c
