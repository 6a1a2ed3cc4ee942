pub mod Known
pub mod Read
pub mod Courses
pub mod Endings
pub mod Rows
pub mod Steps
