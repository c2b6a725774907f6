pub mod Base
pub mod Tests
pub mod Lists
pub mod Numbers
