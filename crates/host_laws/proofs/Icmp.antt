pub mod EchoReplies
pub mod RebuiltPings
