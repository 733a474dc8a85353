-- The definitions that contracts of dp_lang name.
pub mod Arguments
pub mod Causes
pub mod Fields
pub mod Forms
pub mod Kinds
pub mod LabelMaps
pub mod LineErrors
pub mod Lines
pub mod Printing
pub mod Programs
pub mod Reading
pub mod SourceLines
pub mod Sources
pub mod Views
