pub mod Chain
pub mod Premises
pub mod Walk
pub mod WalkLaws
pub mod Ladder
pub mod LadderLaws
