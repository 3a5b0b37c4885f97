mod Blocks
mod Feeds
mod OneReading
mod Progress
mod SomeReading
mod Streaming
