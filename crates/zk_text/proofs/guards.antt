pub mod Cases
pub mod KeyText
pub mod LowerLaws
pub mod Places
pub mod SpellLaws
pub mod Standard
