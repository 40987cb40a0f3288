mod Choosing
mod Parents
mod Fitting
mod Stepping
mod Keeping
mod Advancing
mod Starting
mod Looping
