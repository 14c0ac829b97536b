pub mod Adapter
pub mod Folder
