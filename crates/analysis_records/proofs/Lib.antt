pub mod Call
mod Laws
pub mod Same
mod RecordLaws
