-- What the theorems say of the public calls (document 01, 'When a call says no'): for lent data of any content, what a call that is
-- not refused gives. Demands has the claims.
pub mod Jobs
pub mod Layouts
pub mod Runs
pub mod Refusals
pub mod Clauses
pub mod Rebuilding
pub mod Stores
pub mod Overlaps
pub mod NoFits
pub mod Checks
pub mod Texts
pub mod Sheets
pub mod Locks
pub mod Lengths
pub mod Previews
pub mod Cuts
pub mod Compacting
pub mod Reading
pub mod Programs
pub mod Workspaces
pub mod Demands
