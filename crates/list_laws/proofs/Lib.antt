-- Laws of tests, numbers, bounded searches, extremes and sums, lists, stores into lists, and loops over them.
pub mod Tests
pub mod Numbers
pub mod Bounded
pub mod Firsts
pub mod Extremes
pub mod Searches
pub mod Sums
pub mod Lists
pub mod Equal
pub mod Stores
pub mod Exits
pub mod Ranges
pub mod Passes
pub mod Copying
pub mod Kit
