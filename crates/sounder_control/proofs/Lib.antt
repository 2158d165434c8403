pub mod EveryZone
