-- What the contracts of `effects` cite beside the model.
pub mod Stepped
