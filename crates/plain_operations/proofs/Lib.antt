-- operations asked for, answered, and done
pub mod Desks
pub mod Tellings
-- what Keep stores of them
pub mod ChangesMade
