pub mod Sets
pub mod Lowest
pub mod Seated
pub mod Resolves
pub mod Admits
pub mod Narrowed
