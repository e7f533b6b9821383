-- What the contracts of `forms` cite, in document 01's order: the form language, then the answers.
pub mod Bytes
pub mod Text
pub mod Read
pub mod Request
pub mod Held
pub mod Answer
pub mod Line
pub mod Exact
