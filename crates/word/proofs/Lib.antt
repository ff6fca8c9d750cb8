-- The files of lemmas.
pub mod Bitwise
pub mod FieldLaws
pub mod Octal
pub mod ShiftLaws
pub mod SumLaws
pub mod Widths
