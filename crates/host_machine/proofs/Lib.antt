pub mod Context
pub mod Send
pub mod Sockets
pub mod Receive
pub mod Interface
mod Examples
