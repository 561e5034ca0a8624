mod JoinedTexts
mod KeptNames
mod KeptNumbers
mod DueSpaces
mod RowFacts
mod StatementsPassed
mod ProcessStops
