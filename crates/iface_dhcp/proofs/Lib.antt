mod Hearing
mod Places
mod Prefixes
mod Routing
mod Waiting
