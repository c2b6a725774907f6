mod Judged
pub mod Laws
