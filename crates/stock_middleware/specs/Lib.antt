pub mod Lint
pub mod Override
pub mod Undo
pub mod WareBody
pub mod Wares
