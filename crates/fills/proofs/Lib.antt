pub mod Counting
pub mod Lacking
pub mod Sets
pub mod OrderMark
pub mod Latest
pub mod NextSet
