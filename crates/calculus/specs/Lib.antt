-- What the contracts of `calculus` cite, what is promised of SPIs, and walks over tables.
pub mod Number
pub mod Spi
pub mod Answer
pub mod Table
