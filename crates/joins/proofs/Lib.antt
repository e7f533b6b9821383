-- Laws that belong to no one function.
pub mod Clashes
pub mod JoinCases
pub mod LinesRead
pub mod Matches
pub mod Merges
