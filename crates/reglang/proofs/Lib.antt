pub mod CheckLines
mod ClausesFit
mod Contexts
mod Fits
mod Frames
mod Joins
mod KnownSpellings
mod Leads
mod LineTexts
mod LineWords
mod Memory
mod OneLineMore
mod Programs
mod ReadAgain
mod Readings
mod Says
mod SourceTexts
mod WordTexts
