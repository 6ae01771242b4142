-- The lemmas on orders that are being made, and on lists of numbers.
mod Begun
mod Numbers
