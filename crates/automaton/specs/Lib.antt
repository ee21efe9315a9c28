pub mod Filtering
pub mod Automaton
pub mod Listing
pub mod Steps
pub mod Counts
