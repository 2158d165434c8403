-- what an import answers, from what its parts answer
pub mod Answering
