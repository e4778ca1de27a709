-- The words of demand 3 (Claims), of trials, line search, sums and start layout; the theorems are proved in proofs/.
pub mod Claims
pub mod LentLayout
pub mod Trials
pub mod Search
pub mod Sums
pub mod Start
