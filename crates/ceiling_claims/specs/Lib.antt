pub mod Positions
pub mod Records
pub mod Entries
pub mod Bytes
pub mod Before
pub mod Worked
