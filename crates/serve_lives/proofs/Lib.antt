mod Opened
mod Going
mod Reading
