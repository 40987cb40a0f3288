pub mod FullScale
