-- The definitions of files and requests: their words and forms, the checks of lines, and what bytes name.
pub mod Words
pub mod Forms
pub mod Checks
pub mod Names
pub mod Answers
pub mod Text
pub mod Reading
pub mod FirstLine
pub mod Sections
pub mod RequestLists
pub mod Requests
pub mod RequestSteps
pub mod RequestText
pub mod RequestLaws
