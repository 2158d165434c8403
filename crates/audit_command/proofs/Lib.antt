-- what an audit answers, from what its parts answer
pub mod Answering
