mod Broadcasts
pub mod Building
pub mod Cutting
pub mod Processing
mod Routing
mod Syncing
mod Extended
