pub mod Putting
pub mod Words
pub mod Numbers
pub mod Printing
pub mod Parting
pub mod Counting
pub mod Running
pub mod Reporting
