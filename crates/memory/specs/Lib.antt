pub mod RowCells
pub mod Fits
pub mod Rings
pub mod DensePlaces
pub mod DenseMemory
pub mod EntryPlaces
pub mod SparseParts
pub mod SparseMemory
