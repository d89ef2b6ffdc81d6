-- The calendar's definitions, and the laws that other crates cite.
pub mod Calendar
pub mod MonthLaws
pub mod CalendarLaws
