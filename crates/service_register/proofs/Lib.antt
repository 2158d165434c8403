-- lists of points that are made place by place
pub mod PlaceByPlace
-- calls that are made twice
pub mod Twice
-- rows that are written
pub mod Rows
