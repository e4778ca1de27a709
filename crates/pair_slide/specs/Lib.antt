-- What the slide over strips computes, said of the lent lists alone, and what a placed box shows of a piece.
pub mod Meeting
pub mod Boxes
