mod Answers
mod Map
