mod Bits
mod Banks
mod Pending
