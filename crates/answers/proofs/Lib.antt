-- Laws that belong to no one function.
pub mod Sets
pub mod Writes
pub mod Widths
pub mod Credentials
