mod NetworkSteps
mod NetworkLaws
