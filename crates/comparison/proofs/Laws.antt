-- Laws of the comparison: of its steps, and of the records of both traces.
pub mod Steps
pub mod Records
pub mod Lists
