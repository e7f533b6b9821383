-- What the contracts of `tables` cite, beside the model's.
pub mod Part
