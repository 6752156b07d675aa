mod Cut
mod EmptyLines
mod Examples
