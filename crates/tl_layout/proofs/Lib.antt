pub mod Stated
mod Words
mod Puts
mod Inner
mod Stood
mod Shown
mod Laid
mod Marks
mod Free
