mod Sources
mod Booleans
mod Within
mod InTurn
mod Declared
mod Sound
mod TypedExprs
mod TypedProcs
mod UsesBelow
mod NoCircle
mod NamesFit
mod ContentSound
pub mod Whole
mod Sets
mod Tabled
