pub mod Settings
pub mod Streams
pub mod Poll
pub mod Connect
pub mod Reports
pub mod Calls
