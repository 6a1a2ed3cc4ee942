pub mod Puts
pub mod Times
pub mod Numbers
pub mod Forms
pub mod FieldLaws
pub mod ConfigLaws
pub mod Standing
pub mod FieldLengths
