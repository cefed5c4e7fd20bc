pub mod CustomerLayout
pub mod Refusals
pub mod Firsts
