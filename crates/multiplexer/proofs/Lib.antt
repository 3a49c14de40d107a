mod Bits
mod Turning
