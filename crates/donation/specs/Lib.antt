pub mod Donation
