-- Handles that open with a topology, the names that the proofs by hand use, and the machine's words of boxes and of pointers without
-- a type.
mod Customized
mod Steps
mod Words
