mod Rows
mod Following
mod Entries
mod Turning
mod RowAnswers
