mod Alike
mod Beside
mod Begun
mod CutRows
mod Pairs
mod Same
mod Stacked
mod Stored
