mod Paths
mod OneFlip
mod Approaches
mod Waiting
mod Turns
mod Reached
mod Walks
mod ShortestPaths
