pub mod BackLaws
pub mod OneCallLaws
pub mod LeastFaults
pub mod Wholes
pub mod OneCall
pub mod OneRun
pub mod Sizes
pub mod OneSheet
