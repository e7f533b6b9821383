-- What proofs cite of the lines that `reports` writes; its contract is `Writes` of `answers`.
pub mod Puts
