mod GroupQueries
mod GroupReports
mod JoinReports
mod Records
