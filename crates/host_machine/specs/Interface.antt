pub mod Config
pub mod Parts
pub mod Ingress
pub mod Polling
pub mod Due
pub mod Run
pub mod Step
pub mod Egress
