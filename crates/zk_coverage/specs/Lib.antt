pub mod Coverage
pub mod Lines
pub mod Reports
pub mod Tallies
pub mod Page
pub mod guards
