pub mod BentMemory
pub mod MemDisk
pub mod MemDiskLaws
pub mod MemSink
pub mod MemSource
pub mod TinyFuse
pub mod TinyFuseLaws
pub mod Torn
