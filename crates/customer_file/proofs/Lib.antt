pub mod CustomerCases
