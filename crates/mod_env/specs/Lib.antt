pub mod Marks
pub mod Value
pub mod Conf
pub mod Expand
pub mod EnvFile
pub mod Env
pub mod Puts
pub mod Spelling
