pub mod GroupChanges
pub mod GroupReports
pub mod KeptGroups
pub mod ReportTimes
pub mod SetGroups
pub mod HeardQueries
