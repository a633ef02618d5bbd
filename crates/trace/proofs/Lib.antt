pub mod Fields
pub mod ExtentLaws
pub mod KindLaws
pub mod Laid
pub mod Written
