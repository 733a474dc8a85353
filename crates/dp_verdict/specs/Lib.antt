pub mod Checks
pub mod Inferring
pub mod Judging
pub mod Lines
pub mod Reports
pub mod Verdicts
