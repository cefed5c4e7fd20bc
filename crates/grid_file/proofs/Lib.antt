pub mod GridDays
