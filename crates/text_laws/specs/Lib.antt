-- The words of the claims about texts and outcomes, beside the model's definitions: how a job is written as a text, when a reader gives
-- what, where a line begins, and the cause that each refusal of a reader has. They are proved in proofs/.
pub mod Outcomes
pub mod JobWriting
pub mod Exact
pub mod LinePlaces
pub mod JobRefusals
pub mod LayoutRefusals
pub mod Texts
