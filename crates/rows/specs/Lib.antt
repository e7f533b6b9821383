-- What the contracts of `rows` cite beside the model.
pub mod Picked
