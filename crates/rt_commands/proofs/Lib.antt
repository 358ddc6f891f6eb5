pub mod CommandReads
