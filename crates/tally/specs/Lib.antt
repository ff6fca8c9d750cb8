-- The files of definitions, to be read.
pub mod Tally
pub mod TotalLaws
