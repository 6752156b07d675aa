pub mod Letters
pub mod Printed
pub mod Refusals
