-- The definitions of what the program answers, and of the system around it.
pub mod Program
pub mod System
