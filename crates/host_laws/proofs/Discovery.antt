pub mod NotedRequests
pub mod Advertisements
pub mod LearntNeighbors
pub mod NeighborOrigins
pub mod RoomMade
pub mod QuietFrames
