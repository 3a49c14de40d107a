pub mod Answering
pub mod BelowEnd
pub mod FileSets
pub mod OneChange
pub mod Writing
