-- The worked examples.
pub mod Cases
