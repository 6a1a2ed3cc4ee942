mod Listening
mod Framed
