-- What the proof of a function takes from outside its folder.
mod Turns
