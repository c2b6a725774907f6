mod Output
mod Laws
