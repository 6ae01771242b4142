-- The definitions of jobs with other files, and of the limits of their numbers.
pub mod Job
