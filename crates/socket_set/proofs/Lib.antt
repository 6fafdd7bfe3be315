pub mod BusyLemmas
pub mod KeyLemmas
pub mod SocketSetLemmas
pub mod WaitLemmas
