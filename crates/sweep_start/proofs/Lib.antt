pub mod StartLines
