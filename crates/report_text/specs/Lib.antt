pub mod Report
pub mod Arguments
