-- Laws that belong to no one function.
pub mod Covers
pub mod Nodes
