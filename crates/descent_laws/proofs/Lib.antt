-- Laws of sums, line search, descent, guided run and start layout (document 01, 'Line search', 'Descent and guidance' and 'Start,
-- layout text, sheet'). specs/Claims says what demand 3's words mean, and Demand3 has the theorem.
pub mod Sums
pub mod Search
pub mod Run
pub mod Trials
pub mod Order
pub mod Descent
pub mod Guided
pub mod Demand3
pub mod Start
pub mod Lent
pub mod Bounds
