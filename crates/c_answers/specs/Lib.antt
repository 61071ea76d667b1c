-- How an answer lies in the array that a C caller lends.
pub mod Numbers
pub mod Answers
