mod TestLaws
mod Answers
mod FirstLaws
mod VariableLaws
mod FormulaLaws
mod RowLaws
mod TableLaws
mod TableFaults
mod AssertionLaws
mod Places
mod Whole
mod CountLaws
pub mod Sets
