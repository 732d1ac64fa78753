-- Histories: what every entry keeps, and what a step of the server is.
pub mod ConnectionLaws
pub mod CoreLaws
pub mod Facts
pub mod GivenNames
pub mod Histories
pub mod Inspection
pub mod Lawful
pub mod Newcomer
pub mod Order
pub mod Origins
pub mod OtherMetas
pub mod Publishers
pub mod ServerOrder
pub mod StepLaw
pub mod Within
