pub mod ListedWords
