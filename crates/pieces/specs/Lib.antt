-- What the contracts of `pieces` cite: `Progress` those of the public functions, `Keep` that of a private one; and what a loop over them writes.
pub mod Keep
pub mod Progress
pub mod Run
