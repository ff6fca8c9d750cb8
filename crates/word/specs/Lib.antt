-- The files of definitions, to be read.
pub mod Adding
pub mod Bits
pub mod Digits
pub mod Figures
pub mod Order
pub mod Parts
pub mod Shifts
pub mod SumLaws
pub mod Sums
pub mod Words
