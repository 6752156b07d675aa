mod Ends
mod Sampled
