pub mod FileDisk
pub mod FileSource
pub mod StdSink
