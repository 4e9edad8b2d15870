-- Of maps and of one leaf: its edits, its count, its entries in rising order, the leaf parted in two.
pub mod MapLaws
pub mod ListLaws
pub mod Same
pub mod Edits
pub mod CountLaws
pub mod EditMaps
pub mod Order
pub mod Parting
-- Of chains: parts, one stretch replaced by another, one chain and its length, the walk along it, targets, the rising
-- list.
pub mod ChainLaws
pub mod Stretch
pub mod ChainSize
pub mod Walk
pub mod TargetLaws
pub mod Entries
pub mod Changes
pub mod Calls
pub mod PotentialLaws
-- Of words and bytes: stores as edits, kept and alike images, the image after each call's stores, the calls' answers.
pub mod KeptLaws
pub mod ImageLaws
pub mod Blocks
pub mod Stored
pub mod WordMoves
pub mod WordSplit
pub mod WordCalls
pub mod Answers
