-- Laws of what a run is given and of the causes of a run's refusal.
pub mod Causes
