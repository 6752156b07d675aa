pub mod Stated
mod LeastMember
mod UnderTarget
mod Choices
mod Greatest
mod Gaps
mod Numbers
mod Places
mod OneFlip
mod ChangedGap
mod Distance
