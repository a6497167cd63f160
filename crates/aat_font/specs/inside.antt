pub mod MarkedWords
