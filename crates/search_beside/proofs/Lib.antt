-- Laws of penalties read from kept lines, of pieces apart, of the word of near pieces, of tracks and of the table renewed.
pub mod Readings
pub mod Outside
pub mod Near
pub mod Tracks
pub mod Renewing
