-- What the contracts of `simulator` cite.
pub mod Reply
pub mod Batch
pub mod Line
