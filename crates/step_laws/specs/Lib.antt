pub mod WrittenTurns
