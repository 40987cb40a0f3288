mod Counting
mod Keeping
mod KeepingBlock
mod Passing
mod Serving
mod Refusing
