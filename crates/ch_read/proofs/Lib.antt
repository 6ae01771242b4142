-- The lemmas on reading: lines and words, numbers, the checks of a line, limits, sections, requests, and texts read back.
pub mod OneAnswer
pub mod Splits
pub mod Cuts
pub mod Numbers
pub mod Judging
pub mod Reading
pub mod Limits
pub mod WrittenLines
pub mod PlainLines
pub mod WrittenSaved
pub mod SavedReadBack
pub mod RequestNumbers
pub mod Requests
pub mod RequestLaws
pub mod RequestTurns
pub mod RequestsHeldBack
