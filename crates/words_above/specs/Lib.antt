pub mod ListsInOrder
pub mod ListedInputs
pub mod ListedWords
pub mod FirstRowListed
pub mod ListCall
