pub mod Customer
pub mod CustomerMachine
pub mod CustomerLaws
