-- A debit pair posted on the board.
pub mod Posting
pub mod Steps
