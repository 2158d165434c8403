-- the order of a site's markers, and the cycle that is told where there is none
pub mod Cycles
pub mod Orders
pub mod Placed
pub mod Stands
pub mod Refused
-- the values of all markers, and the outputs that they ask for
pub mod Solutions
pub mod Requests
-- after a change of facts: what depends on it, directly or through markers, and how many that are
pub mod Users
pub mod Changes
pub mod Written
