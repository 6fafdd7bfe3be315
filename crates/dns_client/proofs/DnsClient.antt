pub mod Asking
pub mod Ends
pub mod Reading
pub mod Spacing
pub mod Standing
pub mod Taking
pub mod Telling
