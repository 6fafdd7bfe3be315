pub mod SocketMeta
pub mod SocketSet
pub mod Laws
pub mod Details
