mod ClaimCalls
mod ErrorCalls
mod ErrorExamples
mod ErrorLaws
mod FragmentRoom
mod FrameCalls
mod KnownCalls
mod LeasedCalls
pub mod Places
mod Vacancies
mod RefusalCalls
mod RuleCalls
mod GuardCalls
