pub mod Bands
pub mod Even
pub mod Firsts
pub mod Examples
