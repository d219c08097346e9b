pub mod MadeRows
