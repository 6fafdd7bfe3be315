pub mod Places
pub mod Resolver
pub mod Laws
