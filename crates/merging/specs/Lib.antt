pub mod Examples
pub mod Joined
pub mod Merged
pub mod Mergers
pub mod Texts
pub mod Unjoined
pub mod Unmerged
