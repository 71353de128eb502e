pub mod MinReads
