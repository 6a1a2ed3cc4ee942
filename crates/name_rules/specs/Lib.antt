pub mod Grammar
pub mod Names
pub mod Rows
pub mod Laws
pub mod Worked
