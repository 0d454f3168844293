pub mod Replies
pub mod Results
pub mod FaultTexts
pub mod Said
pub mod Runs
pub mod Going
pub mod Starts
pub mod Sheets
