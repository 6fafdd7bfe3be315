pub mod ClaimLemmas
pub mod MessageLemmas
pub mod MessageClaimLemmas
pub mod CountLemmas
pub mod StrangerLemmas
mod NewcomerLemmas
mod TeachingLemmas
mod LearningLemmas
mod Ipv6ClaimLemmas
pub mod AnswerLemmas
