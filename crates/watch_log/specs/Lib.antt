pub mod Words
pub mod FaultText
pub mod ReportText
pub mod Told
