pub mod PackedTilings
pub mod Laws
pub mod Ready
