mod Loops
mod Names
