mod DriveSteps
mod LinkSteps
