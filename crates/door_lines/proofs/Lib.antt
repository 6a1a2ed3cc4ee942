pub mod Alone
pub mod RequestLaws
pub mod AskedLaws
pub mod ReplyLaws
