pub mod NamedZones
