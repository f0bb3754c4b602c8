pub mod FileWorlds
pub mod Foundings
pub mod Copying
pub mod Serving
pub mod Starts
pub mod Stops
pub mod Histories
pub mod Private
