pub mod MessageAgain
pub mod Reading
pub mod TextAgain
pub mod Writing
pub mod DnsClient
pub mod Alone
