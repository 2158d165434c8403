-- the order of the markers, placed one by one, and the cycle to which those lead that can't be placed
pub mod Orders
pub mod Placing
pub mod Left
pub mod Walking
-- solving: tests over terms, marker by marker, as deep as chains of terms go, and the outputs then asked for
pub mod Truths
pub mod Equations
pub mod Solving
pub mod Depths
pub mod Asking
-- after facts changed: which markers depend on them, how many are solved anew, and that the rest keep their values
pub mod Using
pub mod Below
pub mod Marking
pub mod Passing
pub mod Changing
pub mod Kept
pub mod Counted
