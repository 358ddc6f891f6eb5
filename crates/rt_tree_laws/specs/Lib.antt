pub mod DataItems
