pub mod AllParts
pub mod Marks
pub mod OnePartMore
pub mod Reading
pub mod TextParts
