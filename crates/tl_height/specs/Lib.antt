pub mod HeightFunction
pub mod OneProof
pub mod Standing
pub mod Letters
