pub mod Words
pub mod Answer
pub mod ConversionLaws
pub mod Examples
pub mod SameReportLaws
pub mod HourLimitLaws
