pub mod Numbers
pub mod Bits
pub mod Bytes
pub mod Decimal
pub mod Put
