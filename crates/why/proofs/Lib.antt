pub mod Faults
pub mod ValuesFound
pub mod RecordLists
pub mod Ways
pub mod Truths
pub mod OneAnswer
mod Sentences
mod Witnesses
