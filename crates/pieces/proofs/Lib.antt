-- Laws that belong to no one function.
pub mod Spans
pub mod Lines
pub mod Lent
pub mod Rounds
pub mod Inside
pub mod Run
pub mod Cases
