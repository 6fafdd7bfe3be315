pub mod PassLemmas
mod OrdinaryLemmas
pub mod RateLemmas
pub mod RuleLemmas
pub mod AnswerLemmas
mod EchoLemmas
pub mod Ipv6Lemmas
pub mod SightLemmas
