-- The files of definitions, to be read.
pub mod Column
