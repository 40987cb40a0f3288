mod AddedHalves
mod Halving
mod Layers
mod Joining
mod ShortWords
mod Splitting
mod Strides
mod WholeSlice
