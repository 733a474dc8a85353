pub mod Closing
pub mod Lines
pub mod Replies
pub mod Runs
pub mod Traces
pub mod Watching
