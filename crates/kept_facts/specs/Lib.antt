pub mod KeptFacts
