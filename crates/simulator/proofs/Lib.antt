-- Laws that belong to no one function.
pub mod Batches
pub mod Range
pub mod Replied
