-- What the contract of `rest` cites.
pub mod Behind
