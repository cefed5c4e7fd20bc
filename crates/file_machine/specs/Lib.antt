pub mod FileMachine
