pub mod ReportLaws
pub mod WorkedReport
