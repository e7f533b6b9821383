-- Laws that belong to no one function.
pub mod Tests
pub mod Spi
pub mod Table
