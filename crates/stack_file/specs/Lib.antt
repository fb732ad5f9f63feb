pub mod Canon
pub mod Kept
pub mod Laws
pub mod Lines
pub mod Reads
pub mod Said
pub mod Unbuilt
pub mod Wares
