pub mod GridLayout
