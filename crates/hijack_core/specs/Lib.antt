pub mod Said
pub mod Silence
pub mod Stock
pub mod StockLaws
