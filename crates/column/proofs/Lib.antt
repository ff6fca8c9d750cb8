-- The files of lemmas.
pub mod Columns
pub mod Cuts
