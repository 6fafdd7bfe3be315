mod EgressCall
mod IngressCall
mod NewInterface
mod PollLoop
pub mod SettingCalls
