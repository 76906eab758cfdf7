pub mod CaseTable
pub mod Rows
