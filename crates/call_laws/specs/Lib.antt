-- The words in which the theorems of the public calls speak; the theorems are proved in proofs/, and Demands there gathers them.
pub mod Clause
pub mod Clauses
pub mod Stores
pub mod Rebuilding
pub mod Overlaps
pub mod NoFits
pub mod Checks
pub mod Lengths
pub mod Previews
pub mod Cuts
pub mod Compacting
pub mod Reading
pub mod Programs
pub mod Workspaces
pub mod Sheets
pub mod Locks
