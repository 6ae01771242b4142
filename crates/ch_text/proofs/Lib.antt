-- The lemmas on devices and texts: what calls give and take, texts that grow, saved hierarchies, lines of rows, and that texts are unique.
pub mod Bytes
pub mod Calls
pub mod Moves
pub mod Growing
pub mod Saving
pub mod RowTexts
pub mod OneText
pub mod GraphTexts
