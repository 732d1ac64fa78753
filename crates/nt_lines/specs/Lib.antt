pub mod ItemLines
