pub mod Numbers
pub mod Records
pub mod Payloads
pub mod Live
pub mod Logs
