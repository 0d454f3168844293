pub mod Stripes
pub mod Refusals
pub mod Ledger
pub mod Answers
pub mod Promise
pub mod Fitted
pub mod Table
pub mod Told
