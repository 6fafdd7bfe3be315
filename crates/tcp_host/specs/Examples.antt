pub mod Renewals
pub mod Cookies
