pub mod Index
pub mod Subscriptions
pub mod Wishes
