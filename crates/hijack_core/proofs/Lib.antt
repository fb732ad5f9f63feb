pub mod StockLemmas
mod WorkedRows
