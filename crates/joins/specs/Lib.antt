-- What the contracts of `joins` cite.
pub mod Front
pub mod Join
pub mod Merge
