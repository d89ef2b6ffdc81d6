pub mod ListedHours
