-- The files of lemmas.
pub mod Rows
pub mod Totals
