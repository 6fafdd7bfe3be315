pub mod Context
pub mod Packet
pub mod Send
pub mod Multicast
pub mod Discovery
pub mod Icmp
pub mod Sockets
pub mod Receive
pub mod Interface
pub mod Runs
mod Places
mod DatagramHandover
mod FrameDatagrams
mod Lists
mod IngressDeliveries
mod FramesWithoutUdp
mod Accounts
mod IdleParts
mod Ways
mod TurnDepartures
mod EgressDepartures
mod CallDepartures
mod StepTraffic
mod ReadBack
pub mod RunTraffic
mod RegularHosts
pub mod DatagramOrigin
pub mod NetworkOrigin
mod WaitingPackets
mod FragmentsLeft
mod QueuesAfterTurns
mod GroupsToName
pub mod LessWork
mod QueuedExample
pub mod PingsBack
mod RawHandover
mod RawReception
mod RawFrames
mod RawReplies
mod NoSegments
mod Unspoken
pub mod RawSending
pub mod RawTurns
pub mod RawTraffic
pub mod RawOrigin
pub mod RawTcp
mod RawExample
