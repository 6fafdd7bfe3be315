mod AsBox
mod AsBoxDhcp
mod AsBoxDns
mod AsBoxStreams
mod Codes
mod ConnectCodes
mod Networks
mod PolledDhcp
mod NewStreams
mod Reading
mod SameHost
mod StartCodes
pub mod Values
mod ServersIn
