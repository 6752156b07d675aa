mod Begun
mod Entries
mod Opened
mod Received
mod Rows
mod Sides
mod Swept
