pub mod Lines
pub mod ItemLines
pub mod LogTools
pub mod LogRun
