pub mod Cut
pub mod KeyReading
pub mod KeyText
pub mod Meaning
pub mod NameTables
pub mod Names
pub mod Number
pub mod Order
