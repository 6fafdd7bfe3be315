pub mod Place
pub mod PlaceLends
pub mod RouteNodes
pub mod StoreLends
