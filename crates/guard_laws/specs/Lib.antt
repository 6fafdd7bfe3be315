pub mod Claims
pub mod MessageClaims
pub mod Strangers
pub mod Learning
pub mod Answers
