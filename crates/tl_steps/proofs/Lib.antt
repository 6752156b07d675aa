pub mod Stated
mod Extremes
mod Read
mod Values
mod Bounds
mod OneStep
mod Chosen
mod Class
mod InPlace
mod Lawful
mod Small
mod Below
mod Examples
