pub mod Output
pub mod Arguments
