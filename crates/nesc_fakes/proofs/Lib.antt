mod Images
mod Leavable
