-- What the contracts of `answers` cite: an output with a text in it.
pub mod Write
pub mod Put
