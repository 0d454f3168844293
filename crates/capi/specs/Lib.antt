pub mod Numbers
pub mod Sites
pub mod Lists
pub mod Admissions
pub mod Plans
pub mod Sheets
