mod AddedWords
pub mod AskedRequests
mod BoundedReads
mod Breadths
mod FirstBad
mod NamedSubcommands
mod Numbers
mod ParsedCommands
mod PartWords
mod PlainCommands
