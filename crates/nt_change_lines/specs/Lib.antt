pub mod ChangeLines
