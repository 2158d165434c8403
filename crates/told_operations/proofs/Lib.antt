mod FoundFirst
mod Grounds
mod LineByLine
mod ToldInOrder
