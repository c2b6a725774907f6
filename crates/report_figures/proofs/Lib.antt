pub mod Depths
pub mod Libraries
pub mod Netlists
pub mod Reports
pub mod Texts
pub mod Ties
